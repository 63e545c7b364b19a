-- What stands in each register, the sheet and the length after a load, a start and an order.
-- Assumes nothing.
use Rattle.std.proofs.Common.{◌≡◌, ℕ, ◌+◌, ◌*◌, ◌<◌, ◌≤◌, List, ◌++◌, length, take, drop, ap, ◌∙◌, arith, length-append, length-drop, length-set, drop_at}
use lib.ListN.{get_or-append}
use lib.Seq.{get_or_at, take-append_seam}
use Rattle.words.specs.Words.{word, tab}
use Rattle.words.proofs.WordLaws.{length_tab, tab_at}
use Rattle.network.specs.Registers.{reg, put, sheet_in, sheet_length, moving_words, state_words, clock_row, order_mark_place, order_schedule_place}
use Rattle.network.specs.Registers.{order_period_place, left_row, read_row, write_row, kind_row, to_go_row, row_count, row_words, clock_words}
use Rattle.network.specs.Seen.{seen_sender}
use Rattle.network.proofs.RowLaws.{sender_same}
use Rattle.network.proofs.PutLaws.{put_same, put_other, put_sheet, put_sheet_length}
use Rattle.session.specs.Calls.{loaded, started, ordered}
use Rattle.soundness.proofs.SheetLaws.{SheetBounds}

-- a load: every register is 0, and the sheet is the one loaded
module _ (z s : List ℕ) where
  pub loaded_sheet : sheet_in (loaded z s) ≡ z
  unfolding sheet_in loaded
  loaded_sheet =
      ap (λ rest. take (word rest 0) (drop 1 rest)) (drop_at (tab moving_words (λ k. 0)) _ moving_words (length_tab moving_words (λ k. 0)))
      ∙ take-append_seam z (drop (moving_words + 1 + length z) s)

  pub loaded_sheet_length : sheet_length (loaded z s) ≡ length z
  unfolding sheet_length loaded
  loaded_sheet_length =
      get_or_at (tab moving_words (λ k. 0)) (length z) (z ++ drop (moving_words + 1 + length z) s) 0 moving_words
      (length_tab moving_words (λ k. 0))

  pub loaded_register : (row k : ℕ) → row < row_count → k < row_words → reg (loaded z s) row k ≡ 0
  unfolding reg loaded
  loaded_register row k rl kl =
      let inside : row * row_words + k < moving_words = omega arith in
      get_or-append (tab moving_words (λ k. 0)) _ 0 (row * row_words + k) (rw length_tab inside)
      ∙ tab_at moving_words (λ k. 0) (row * row_words + k) inside

  pub loaded_length : SheetBounds z → state_words ≤ length s → length (loaded z s) ≡ length s
  unfolding loaded
  loaded_length b long = simp (length-append, length_tab, length-drop) (omega (arith, b.fits))

-- a start: the four registers of its circuit
module _ (s : List ℕ) (circuit read_address write_address count kind : ℕ) (few : circuit < row_words) where
  abbrev with_left : List ℕ
  with_left = put s left_row circuit count

  abbrev with_read : List ℕ
  with_read = put with_left read_row circuit read_address

  abbrev with_write : List ℕ
  with_write = put with_read write_row circuit write_address

  abbrev begun : List ℕ
  begun = started s circuit read_address write_address count kind

  pub started_other : (row k : ℕ) → k < row_words → (left_row ≤ row → row ≤ kind_row → k ≡ circuit → ⊥) → reg begun row k ≡ reg s row k
  unfolding started
  started_other row k kl h =
      put_other with_write kind_row circuit kind row k (no kind_row (omega arith) (omega arith))
      ∙ put_other with_read write_row circuit write_address row k (no write_row (omega arith) (omega arith))
      ∙ put_other with_left read_row circuit read_address row k (no read_row (omega arith) (omega arith))
      ∙ put_other s left_row circuit count row k (no left_row (omega arith) (omega arith))
    where
      no : (changed : ℕ) → left_row ≤ changed → changed ≤ kind_row → row * row_words + k ≡ changed * row_words + circuit → ⊥
      no changed low high e = h (omega arith) (omega arith) (omega arith)

  pub started_sender : moving_words ≤ length s
      → seen_sender begun circuit
      ≡ record { left = count; read_address = read_address; write_address = write_address; kind = kind; to_go = reg s to_go_row circuit }
  unfolding started
  started_sender l = sender_same _ _
      (put_other with_write kind_row circuit kind left_row circuit (λ e. omega arith)
      ∙ put_other with_read write_row circuit write_address left_row circuit (λ e. omega arith)
      ∙ put_other with_left read_row circuit read_address left_row circuit (λ e. omega arith)
      ∙ put_same s left_row circuit count (omega arith))
      (put_other with_write kind_row circuit kind read_row circuit (λ e. omega arith)
      ∙ put_other with_read write_row circuit write_address read_row circuit (λ e. omega arith)
      ∙ put_same with_left read_row circuit read_address (simp length-set (omega arith)))
      (put_other with_write kind_row circuit kind write_row circuit (λ e. omega arith)
      ∙ put_same with_read write_row circuit write_address (simp length-set (omega arith)))
      (put_same with_write kind_row circuit kind (simp length-set (omega arith)))
      (started_other to_go_row circuit few (λ a b e. omega arith))

  pub started_sheet : sheet_in begun ≡ sheet_in s
  unfolding started
  started_sheet =
      put_sheet with_write kind_row circuit kind (omega arith)
      ∙ put_sheet with_read write_row circuit write_address (omega arith)
      ∙ put_sheet with_left read_row circuit read_address (omega arith)
      ∙ put_sheet s left_row circuit count (omega arith)

  pub started_sheet_length : sheet_length begun ≡ sheet_length s
  unfolding started
  started_sheet_length =
      put_sheet_length with_write kind_row circuit kind (omega arith)
      ∙ put_sheet_length with_read write_row circuit write_address (omega arith)
      ∙ put_sheet_length with_left read_row circuit read_address (omega arith)
      ∙ put_sheet_length s left_row circuit count (omega arith)

pub started_length : (s : List ℕ) (circuit read_address write_address count kind : ℕ)
    → length (started s circuit read_address write_address count kind) ≡ length s
unfolding started
started_length s circuit read_address write_address count kind = simp length-set

-- an order: its mark, schedule and period
module _ (s : List ℕ) (schedule period : ℕ) where
  abbrev with_mark : List ℕ
  with_mark = put s clock_row order_mark_place 1

  abbrev with_schedule : List ℕ
  with_schedule = put with_mark clock_row order_schedule_place schedule

  abbrev told : List ℕ
  told = ordered s schedule period

  pub ordered_other : (row k : ℕ) → k < row_words → (row ≡ clock_row → order_mark_place ≤ k → k < clock_words → ⊥) → reg told row k ≡ reg s row k
  unfolding ordered
  ordered_other row k kl h =
      put_other with_schedule clock_row order_period_place period row k (λ e. h (omega arith) (omega arith) (omega arith))
      ∙ put_other with_mark clock_row order_schedule_place schedule row k (λ e. h (omega arith) (omega arith) (omega arith))
      ∙ put_other s clock_row order_mark_place 1 row k (λ e. h (omega arith) (omega arith) (omega arith))

  pub ordered_mark : moving_words ≤ length s → reg told clock_row order_mark_place ≡ 1
  unfolding ordered
  ordered_mark l =
      put_other with_schedule clock_row order_period_place period clock_row order_mark_place (λ e. omega arith)
      ∙ put_other with_mark clock_row order_schedule_place schedule clock_row order_mark_place (λ e. omega arith)
      ∙ put_same s clock_row order_mark_place 1 (omega arith)

  pub ordered_schedule : moving_words ≤ length s → reg told clock_row order_schedule_place ≡ schedule
  unfolding ordered
  ordered_schedule l =
      put_other with_schedule clock_row order_period_place period clock_row order_schedule_place (λ e. omega arith)
      ∙ put_same with_mark clock_row order_schedule_place schedule (simp length-set (omega arith))

  pub ordered_period : moving_words ≤ length s → reg told clock_row order_period_place ≡ period
  unfolding ordered
  ordered_period l = put_same with_schedule clock_row order_period_place period (simp length-set (omega arith))

  pub ordered_sheet : sheet_in told ≡ sheet_in s
  unfolding ordered
  ordered_sheet =
      put_sheet with_schedule clock_row order_period_place period (omega arith)
      ∙ put_sheet with_mark clock_row order_schedule_place schedule (omega arith)
      ∙ put_sheet s clock_row order_mark_place 1 (omega arith)

  pub ordered_sheet_length : sheet_length told ≡ sheet_length s
  unfolding ordered
  ordered_sheet_length =
      put_sheet_length with_schedule clock_row order_period_place period (omega arith)
      ∙ put_sheet_length with_mark clock_row order_schedule_place schedule (omega arith)
      ∙ put_sheet_length s clock_row order_mark_place 1 (omega arith)

  pub ordered_length : length told ≡ length s
  unfolding ordered
  ordered_length = simp length-set
