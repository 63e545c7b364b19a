-- One node's part of the stage: its seven registers as the cycle wants them, nothing else.
-- Assumes nothing.
use Rattle.std.proofs.Common.{◌≡◌, ℕ, ◌+◌, ◌*◌, ◌<◌, ◌≤◌, List, [], length, sym, refl, ap, ◌∙◌, subst, ap₂, arith}
use native.Mathlib.Decide.{dec_le}
use lib.Seq.{set-get_or}
use Rattle.words.specs.Tests.{◌≤?◌, ◌=?◌}
use Rattle.words.specs.Words.{pick}
use Rattle.packet.specs.Header.{kind_of, address_of}
use Rattle.network.specs.Registers.{reg, put, moving_words, receive_mark, receive_kind, receive_address, landing_mark, landing_kind, landing_address, landing_word, out_mark, out_word, row_count, row_words}
use Rattle.network.specs.Inner.Machine.{memory_mark, memory_word, next_receive_mark, next_receive_kind, next_receive_address, next_landing_mark, row_in, next_rows, next_in_row}
use Rattle.network.specs.Inner.Live.{Stays}
use Rattle.network.proofs.FillLaws.{Wrote, wrote_one, wrote_more}
use Rattle.receivers.specs.Inner.Required.{LandingFits}
use Rattle.receivers.specs.Inner.Written.{landing_put, receive_put}
use Rattle.receivers.proofs.UnitLaws.{mark_held, kind_held, address_held}

-- what a node's part reads is in t as it is in s
pub record SameAt (s t : List ℕ) (node : ℕ) : Type 0 where
  pub mark : memory_mark t node ≡ memory_mark s node
  pub payload : memory_word t node ≡ memory_word s node
  pub receive_mark_is : reg t receive_mark node ≡ reg s receive_mark node
  pub receive_kind_is : reg t receive_kind node ≡ reg s receive_kind node
  pub receive_address_is : reg t receive_address node ≡ reg s receive_address node

pub same_here : (s : List ℕ) (node : ℕ) → SameAt s s node
same_here s node = record { mark = refl; payload = refl; receive_mark_is = refl; receive_kind_is = refl; receive_address_is = refl }

-- so is what it writes
module _ (s t : List ℕ) (node : ℕ) (e : SameAt s t node) where
  same_mark : next_receive_mark t node ≡ next_receive_mark s node
  unfolding next_receive_mark
  same_mark = ap₂ (λ (m r : ℕ). pick (m =? 1) 1 (pick (3 ≤? m) 0 r)) e.mark e.receive_mark_is

  same_kind : next_receive_kind t node ≡ next_receive_kind s node
  unfolding next_receive_kind
  same_kind =
      ap₂ (λ (m r : ℕ). pick (m =? 1) (kind_of (memory_word t node)) r) e.mark e.receive_kind_is
      ∙ ap (λ (w : ℕ). pick (memory_mark s node =? 1) (kind_of w) (reg s receive_kind node)) e.payload

  same_address : next_receive_address t node ≡ next_receive_address s node
  unfolding next_receive_address
  same_address =
      ap₂ (λ (m r : ℕ). pick (m =? 1) (address_of (memory_word t node)) (pick (2 ≤? m) (r + 1) r)) e.mark e.receive_address_is
      ∙ ap
      (λ (w : ℕ).
      pick (memory_mark s node =? 1) (address_of w)
      (pick (2 ≤? memory_mark s node) (reg s receive_address node + 1) (reg s receive_address node)))
      e.payload

  same_landing : next_landing_mark t node ≡ next_landing_mark s node
  unfolding next_landing_mark
  same_landing = ap (λ (m : ℕ). pick (2 ≤? m) 1 0) e.mark

-- some rows at a place, then the rows before them
pub wrote_before : (low middle high k : ℕ) (new : ℕ → ℕ) (s between after : List ℕ) → low ≤ middle → middle < high → high < row_count → k < row_words
    → Wrote (middle + 1) high k new s between → Wrote low middle k new between after → Wrote low high k new s after
wrote_before low middle high k new s between after a b hl kl f g = record {
  same_length = g.same_length ∙ f.same_length;
  same_rest = g.same_rest ∙ f.same_rest;
  written = λ row c d. go row c d (dec_le row middle);
  elsewhere = λ row j rl jl no.
      g.elsewhere row j rl jl (λ c d e. no c (omega arith) e) ∙ f.elsewhere row j rl jl (λ c d e. no (omega arith) d e);
}
  where
    go : (row : ℕ) → low ≤ row → row ≤ high → Dec (row ≤ middle) → reg after row k ≡ new row
    go row c d (yes e) = g.written row c e
    go row c d (no ne) = g.elsewhere row k (omega arith) kl (λ x y z. ne y) ∙ f.written row (omega (arith, ne)) d

-- the rows of a node, as the cycle wants them
abbrev pub wanted : List ℕ → ℕ → ℕ → ℕ
wanted s node row = next_in_row s [] row node

module _ (s t : List ℕ) (node : ℕ) (e : SameAt s t node) (inside : node < 16) (long : moving_words ≤ length t) where
  -- the landing's four registers
  landing_wrote : Wrote landing_mark landing_word node (wanted s node) t (landing_put t node)
  unfolding landing_put next_in_row row_in next_rows ◌=?◌
  landing_wrote =
      let kl : node < row_words = omega arith in
      wrote_more landing_mark landing_address node _ (wanted s node) t _ (omega arith) (omega arith) kl long
      (wrote_more landing_mark landing_kind node _ (wanted s node) t _ (omega arith) (omega arith) kl long
      (wrote_more landing_mark landing_mark node _ (wanted s node) t _ (omega arith) (omega arith) kl long
      (wrote_one landing_mark node _ (wanted s node) t (omega arith) kl long (same_landing s t node e))
      e.receive_kind_is)
      e.receive_address_is)
      e.payload

  -- the receive unit's three
  receive_wrote : Wrote receive_mark receive_address node (wanted s node) t (receive_put t node)
  unfolding receive_put next_in_row row_in next_rows ◌=?◌
  receive_wrote =
      let kl : node < row_words = omega arith in
      wrote_more receive_mark receive_kind node _ (wanted s node) t _ (omega arith) (omega arith) kl long
      (wrote_more receive_mark receive_mark node _ (wanted s node) t _ (omega arith) (omega arith) kl long
      (wrote_one receive_mark node _ (wanted s node) t (omega arith) kl long (same_mark s t node e))
      (same_kind s t node e))
      (same_address s t node e)

-- a landing that is put leaves what the receive unit reads
module _ (s t : List ℕ) (node : ℕ) (e : SameAt s t node) (inside : node < 16) (long : moving_words ≤ length t) where
  pub landing_same : SameAt s (landing_put t node) node
  landing_same =
      let w = landing_wrote s t node e inside long in
      record {
        mark = w.elsewhere out_mark _ (omega arith) (omega arith) (λ a b c. omega arith) ∙ e.mark;
        payload = w.elsewhere out_word _ (omega arith) (omega arith) (λ a b c. omega arith) ∙ e.payload;
        receive_mark_is = w.elsewhere receive_mark node (omega arith) (omega arith) (λ a b c. omega arith) ∙ e.receive_mark_is;
        receive_kind_is = w.elsewhere receive_kind node (omega arith) (omega arith) (λ a b c. omega arith) ∙ e.receive_kind_is;
        receive_address_is = w.elsewhere receive_address node (omega arith) (omega arith) (λ a b c. omega arith) ∙ e.receive_address_is;
      }

  pub node_wrote : Wrote receive_mark landing_word node (wanted s node) t (receive_put (landing_put t node) node)
  node_wrote =
      let w = landing_wrote s t node e inside long in
      wrote_before receive_mark receive_address landing_word node (wanted s node) t (landing_put t node) (receive_put (landing_put t node) node) (omega arith) (omega arith)
      (omega arith) (omega arith) w
      (receive_wrote s (landing_put t node) node landing_same inside (omega (arith, w.same_length)))

-- so the address of a word that lands is as small behind it
pub landing_kept : (s t : List ℕ) (node size : ℕ) → LandingFits s node size → t ≡ landing_put s node → LandingFits t node size
landing_kept s t node size g e =
    let w = landing_wrote s s node (same_here s node) g.inside g.long in
    let same = landing_same s s node (same_here s node) g.inside g.long in
    subst (λ (x : List ℕ). LandingFits x node size) (sym e)
    (record {
      inside = g.inside;
      long = omega (arith, w.same_length, g.long);
      small_room = g.small_room;
      lands = λ l.
          let low = g.lands (omega (arith, same.mark)) in
          omega (arith, same.receive_address_is);
    })

-- the three parts of a node's step
pub node_is : (s : List ℕ) (node : ℕ) {between after : List ℕ} → between ≡ landing_put s node → after ≡ receive_put between node
    → after ≡ receive_put (landing_put s node) node
node_is s node e f = f ∙ ap (λ (x : List ℕ). receive_put x node) e

-- a register that is set to its own word
put_own : (s : List ℕ) (row k : ℕ) → put s row k (reg s row k) ≡ s
unfolding reg
put_own s row k = set-get_or s (row * row_words + k) 0

-- a landing that is stored already
pub landing_stays : (s : List ℕ) (node : ℕ) → reg s landing_mark node ≡ next_landing_mark s node → reg s landing_kind node ≡ reg s receive_kind node
    → reg s landing_address node ≡ reg s receive_address node → reg s landing_word node ≡ memory_word s node → landing_put s node ≡ s
unfolding landing_put
landing_stays s node mark kind address payload =
    ap
    (λ v.
    put (put (put (put s landing_mark node v) landing_kind node (reg s receive_kind node)) landing_address node (reg s receive_address node)) landing_word node
    (memory_word s node))
    (sym mark)
    ∙ ap
    (λ (x : List ℕ).
    put (put (put x landing_kind node (reg s receive_kind node)) landing_address node (reg s receive_address node)) landing_word node (memory_word s node))
    (put_own s landing_mark node)
    ∙ ap (λ v. put (put (put s landing_kind node v) landing_address node (reg s receive_address node)) landing_word node (memory_word s node)) (sym kind)
    ∙ ap (λ (x : List ℕ). put (put x landing_address node (reg s receive_address node)) landing_word node (memory_word s node)) (put_own s landing_kind node)
    ∙ ap (λ v. put (put s landing_address node v) landing_word node (memory_word s node)) (sym address)
    ∙ ap (λ (x : List ℕ). put x landing_word node (memory_word s node)) (put_own s landing_address node)
    ∙ ap (λ v. put s landing_word node v) (sym payload)
    ∙ put_own s landing_word node

-- nothing on the memory output: the receive unit stays
pub receive_rests : (s : List ℕ) (node : ℕ) → memory_mark s node ≡ 0 → receive_put s node ≡ s
unfolding receive_put
receive_rests s node none =
    let header : ◌≡◌ {A = ℕ} 0 1 → ⊥ = λ z. omega arith in
    let mark = mark_held s node 0 (sym none) (reg s receive_mark node) refl header (omega arith) in
    let kind = kind_held s node 0 (sym none) (reg s receive_kind node) refl header in
    let address = address_held s node 0 (sym none) (reg s receive_address node) refl header (omega arith) in
    ap (λ v. put (put (put s receive_mark node v) receive_kind node (next_receive_kind s node)) receive_address node (next_receive_address s node)) (sym mark)
    ∙ ap (λ (x : List ℕ). put (put x receive_kind node (next_receive_kind s node)) receive_address node (next_receive_address s node)) (put_own s receive_mark node)
    ∙ ap (λ v. put (put s receive_kind node v) receive_address node (next_receive_address s node)) (sym kind)
    ∙ ap (λ (x : List ℕ). put x receive_address node (next_receive_address s node)) (put_own s receive_kind node)
    ∙ ap (λ v. put s receive_address node v) (sym address)
    ∙ put_own s receive_address node

pub node_rests : (s : List ℕ) (node size mark : ℕ) {after : List ℕ} → LandingFits s node size → mark ≡ memory_mark s node → mark ≡ 0
    → after ≡ landing_put s node → after ≡ receive_put (landing_put s node) node
node_rests s node size mark g e z f =
    let same = landing_same s s node (same_here s node) g.inside g.long in
    f ∙ sym (receive_rests (landing_put s node) node (same.mark ∙ sym e ∙ z))

-- nothing is on a node's memory output, and its registers are as the cycle leaves them
pub record Rests (s : List ℕ) (node : ℕ) : Type 0 where
  pub no_mark : memory_mark s node ≡ 0
  pub stays : Stays receive_mark landing_word (next_in_row s []) s node
