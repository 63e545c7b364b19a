-- `accept::schedules::place_entries` meets its contract: with just the entries before it in the table, an entry that is placed meets none of them.
use Prim.Native.Nat.{ℕ, ◌+◌, ◌/◌}
use mathlib.Core.Bool.{false≢true}
use mathlib.Core.List.{List}
use mathlib.Core.Path.{refl, ◌∙◌, ap}
use native.Mathlib.Omega.{arith}
use Rattle.sheet.specs.Sheet.{entry_count, entry_at}
use Rattle.accept.proofs.ScheduleLaws.{accepting_start, accepting_more, counted, entries_whole, accepting_done, fits_read, key_small, ends_fits, sum_small, sizes, placeable_next}
use Rattle.accept.proofs.schedules.place_entries.Goals as goal

pub schedule_period-period-requires : goal.schedule_period-period-requires
schedule_period-period-requires c = c.requires.0.here

pub entries-entries-requires : goal.entries-entries-requires
entries-entries-requires c = c.requires.0.here

pub loop-at-init : goal.loop-at-init
loop-at-init c =
    (refl, omega arith, λ p l h. accepting_start _ _ _ _ _ p l h _ refl c.requires.3)

pub at-e-requires : goal.at-e-requires
at-e-requires c =
    omega (arith, c.loop-at.invariant.0, (entries_whole _ _ _ _ _ c.requires.0 c.requires.1 c.requires.2 _ c.entries-entries.ensures).0)

pub overflow_mul-key : goal.overflow_mul-key
overflow_mul-key c =
    let g = c.loop-at.invariant.2 c.requires.0 c.requires.1 c.requires.2 in
    let q = c.at-e.ensures ∙ ap (λ (l : List ℕ). entry_at l (c.loop-at.at / 4)) c.entries-entries.ensures in
    let t = fits_read c.args.frame.words.now c.args.j _ _ _ c.circuits_of-circuits.ensures c.schedule_period-period.ensures
    c.fits.ensures c.if-not-fits.false in
    omega (arith, key_small _ _ _ _ _ _ _ _ _ _ _ g _ q t)

pub overflow_add-key : goal.overflow_add-key
overflow_add-key c =
    let g = c.loop-at.invariant.2 c.requires.0 c.requires.1 c.requires.2 in
    let q = c.at-e.ensures ∙ ap (λ (l : List ℕ). entry_at l (c.loop-at.at / 4)) c.entries-entries.ensures in
    let t = fits_read c.args.frame.words.now c.args.j _ _ _ c.circuits_of-circuits.ensures c.schedule_period-period.ensures
    c.fits.ensures c.if-not-fits.false in
    omega (arith, key_small _ _ _ _ _ _ _ _ _ _ _ g _ q t)

pub shape_of-table-then-key-least : goal.shape_of-table-then-key-least
shape_of-table-then-key-least c =
    let g = c.loop-at.invariant.2 c.requires.0 c.requires.1 c.requires.2 in
    g.room_is

pub returns-then-key-least : goal.returns-then-key-least
returns-then-key-least c =
    let g = c.loop-at.invariant.2 c.requires.0 c.requires.1 c.requires.2 in record { long = g.room_is; kept = λ y. absurd (false≢true y) }

pub offset_bounds-ends-e : goal.offset_bounds-ends-e
offset_bounds-ends-e c =
    let g = c.loop-at.invariant.2 c.requires.0 c.requires.1 c.requires.2 in
    let q = c.at-e.ensures ∙ ap (λ (l : List ℕ). entry_at l (c.loop-at.at / 4)) c.entries-entries.ensures in
    let t = fits_read c.args.frame.words.now c.args.j _ _ _ c.circuits_of-circuits.ensures c.schedule_period-period.ensures
    c.fits.ensures c.if-not-fits.false in
    omega (arith, ends_fits _ _ _ _ _ _ _ _ _ _ _ g _ q t, c.requires.0.ends_are.long)

pub bounds-ends-e : goal.bounds-ends-e
bounds-ends-e c =
    let g = c.loop-at.invariant.2 c.requires.0 c.requires.1 c.requires.2 in
    let q = c.at-e.ensures ∙ ap (λ (l : List ℕ). entry_at l (c.loop-at.at / 4)) c.entries-entries.ensures in
    let t = fits_read c.args.frame.words.now c.args.j _ _ _ c.circuits_of-circuits.ensures c.schedule_period-period.ensures
    c.fits.ensures c.if-not-fits.false in
    ends_fits _ _ _ _ _ _ _ _ _ _ _ g _ q t

pub overflow_add-period : goal.overflow_add-period
overflow_add-period c =
    omega (arith, c.schedule_period-period.ensures, c.requires.2)

pub overflow_add-e : goal.overflow_add-e
overflow_add-e c =
    let g = c.loop-at.invariant.2 c.requires.0 c.requires.1 c.requires.2 in
    let q = c.at-e.ensures ∙ ap (λ (l : List ℕ). entry_at l (c.loop-at.at / 4)) c.entries-entries.ensures in
    let t = fits_read c.args.frame.words.now c.args.j _ _ _ c.circuits_of-circuits.ensures c.schedule_period-period.ensures
    c.fits.ensures c.if-not-fits.false in
    omega (arith, sum_small _ _ _ _ _ _ _ _ _ _ _ g _ q t _ refl)

pub overflow_sub-e : goal.overflow_sub-e
overflow_sub-e c =
    let g = c.loop-at.invariant.2 c.requires.0 c.requires.1 c.requires.2 in
    let q = c.at-e.ensures ∙ ap (λ (l : List ℕ). entry_at l (c.loop-at.at / 4)) c.entries-entries.ensures in
    let t = fits_read c.args.frame.words.now c.args.j _ _ _ c.circuits_of-circuits.ensures c.schedule_period-period.ensures
    c.fits.ensures c.if-not-fits.false in
    omega (arith, sizes _ _ _ _ _ _ _ _ _ _ _ g _ q t _ refl)

pub overflow_add-e-in-loop-at : goal.overflow_add-e-in-loop-at
overflow_add-e-in-loop-at c =
    let g = c.loop-at.invariant.2 c.requires.0 c.requires.1 c.requires.2 in
    let q = c.at-e.ensures ∙ ap (λ (l : List ℕ). entry_at l (c.loop-at.at / 4)) c.entries-entries.ensures in
    let t = fits_read c.args.frame.words.now c.args.j _ _ _ c.circuits_of-circuits.ensures c.schedule_period-period.ensures
    c.fits.ensures c.if-not-fits.false in
    omega (arith, sum_small _ _ _ _ _ _ _ _ _ _ _ g _ q t _ refl)

pub shape_of-table-then-period-e : goal.shape_of-table-then-period-e
shape_of-table-then-period-e c =
    let g = c.loop-at.invariant.2 c.requires.0 c.requires.1 c.requires.2 in
    g.room_is

pub returns-then-period-e : goal.returns-then-period-e
returns-then-period-e c =
    let g = c.loop-at.invariant.2 c.requires.0 c.requires.1 c.requires.2 in record { long = g.room_is; kept = λ y. absurd (false≢true y) }

pub place_entry-requires : goal.place_entry-requires
place_entry-requires c =
    let g = c.loop-at.invariant.2 c.requires.0 c.requires.1 c.requires.2 in
    let q = c.at-e.ensures ∙ ap (λ (l : List ℕ). entry_at l (c.loop-at.at / 4)) c.entries-entries.ensures in
    let t = fits_read c.args.frame.words.now c.args.j _ _ _ c.circuits_of-circuits.ensures c.schedule_period-period.ensures
    c.fits.ensures c.if-not-fits.false in
    (placeable_next _ _ _ _ _ _ _ _ _ _ _ g _ q t _ refl _ (ap (λ (x : ℕ). x / 32 + 2) c.schedule_period-period.ensures), c.is_long-long.ensures)

pub overflow_add-least : goal.overflow_add-least
overflow_add-least c =
    let g = c.loop-at.invariant.2 c.requires.0 c.requires.1 c.requires.2 in
    let q = c.at-e.ensures ∙ ap (λ (l : List ℕ). entry_at l (c.loop-at.at / 4)) c.entries-entries.ensures in
    let t = fits_read c.args.frame.words.now c.args.j _ _ _ c.circuits_of-circuits.ensures c.schedule_period-period.ensures
    c.fits.ensures c.if-not-fits.false in
    omega (arith, key_small _ _ _ _ _ _ _ _ _ _ _ g _ q t)

pub overflow_add-at : goal.overflow_add-at
overflow_add-at c =
    omega (arith, c.loop-at.invariant.0, (entries_whole _ _ _ _ _ c.requires.0 c.requires.1 c.requires.2 _ c.entries-entries.ensures).1)

pub loop-at-smaller : goal.loop-at-smaller
loop-at-smaller c =
    omega (arith, c.loop-at-test.true)

pub loop-at-preserved : goal.loop-at-preserved
loop-at-preserved c =
    let q = c.at-e.ensures ∙ ap (λ (l : List ℕ). entry_at l (c.loop-at.at / 4)) c.entries-entries.ensures in
    let t = fits_read c.args.frame.words.now c.args.j _ _ _ c.circuits_of-circuits.ensures c.schedule_period-period.ensures
    c.fits.ensures c.if-not-fits.false in (
      omega (arith, c.loop-at.invariant.0),
      omega (arith, c.loop-at-test.true, c.loop-at.invariant.0, (entries_whole _ _ _ _ _ c.requires.0 c.requires.1 c.requires.2 _ c.entries-entries.ensures).0),
      λ p l h.
          counted _ _ _ _ _ p l h c.loop-at.at _ _
          (accepting_more _ _ _ _ _ p l h _ _ _ (c.loop-at.invariant.2 p l h) _ q t _ refl (omega (arith, c.if-key-least.false))
          (omega (arith, c.if-period-e.false, c.schedule_period-period.ensures)) _ _
          (ap (λ (x : ℕ). x / 32 + 2) c.schedule_period-period.ensures) (c.place_entry.ensures.placed c.if-not-place_entry.false)),
    )

pub shape_of-table-then-not-place_entry : goal.shape_of-table-then-not-place_entry
shape_of-table-then-not-place_entry c =
    let g = c.loop-at.invariant.2 c.requires.0 c.requires.1 c.requires.2 in
    c.place_entry.ensures.long ∙ g.room_is

pub returns-then-not-place_entry : goal.returns-then-not-place_entry
returns-then-not-place_entry c =
    let g = c.loop-at.invariant.2 c.requires.0 c.requires.1 c.requires.2 in record { long = c.place_entry.ensures.long ∙ g.room_is; kept = λ y. absurd (false≢true y) }

pub shape_of-table-then-not-fits : goal.shape_of-table-then-not-fits
shape_of-table-then-not-fits c =
    let g = c.loop-at.invariant.2 c.requires.0 c.requires.1 c.requires.2 in
    g.room_is

pub returns-then-not-fits : goal.returns-then-not-fits
returns-then-not-fits c =
    let g = c.loop-at.invariant.2 c.requires.0 c.requires.1 c.requires.2 in record { long = g.room_is; kept = λ y. absurd (false≢true y) }

pub shape_of-table : goal.shape_of-table
shape_of-table c =
    let g = c.loop-at.invariant.2 c.requires.0 c.requires.1 c.requires.2 in
    g.room_is

pub returns : goal.returns
returns c =
    let g = c.loop-at.invariant.2 c.requires.0 c.requires.1 c.requires.2 in record {
      long = g.room_is;
      kept = λ y.
          accepting_done _ _ _ _ _ _ _ _ _ _ _ g (omega (arith, c.loop-at.invariant.1, ap (λ (l : List ℕ). entry_count l) c.entries-entries.ensures));
    }
