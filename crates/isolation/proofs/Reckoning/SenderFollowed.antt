-- One circuit's reckoning follows that circuit's sender, cycle by cycle and call by call.
-- Assumes nothing.
use Prim.Native.Nat.{ℕ, suc, ◌+◌, ◌-◌, ◌≤◌, ◌<◌, min}
use mathlib.Core.Bool.{true, false, false≢true}
use mathlib.Core.List.{List}
use mathlib.Core.Path.{◌≡◌, refl, sym, ◌∙◌, ap, ap₂, subst}
use native.Mathlib.Omega.{arith}
use native.Mathlib.Decide.{ℕ_discrete, dec_lt}
use native.Mathlib.Nat.{add-zero}
use Rattle.words.specs.Tests.{◌and◌, ◌≤?◌}
use Rattle.words.specs.Words.{pick}
use Rattle.words.proofs.TestLaws.{and_both, yes≤, no≤, yes=, no=}
use Rattle.words.proofs.AllLaws.{any_at, any_none}
use Rattle.sheet.specs.Sheet.{circuit_at}
use Rattle.sheet.specs.Slots.{slot_length}
use Rattle.network.specs.View.{Sender, Landing, nothing, landed, View}
use Rattle.network.specs.Cycle.{Move, rests, opens, sends, move, step_sender, slot_now, move_now, read_now, tick, reopens}
use Rattle.soundness.proofs.SoundLaws.{TransferParts}
use Rattle.isolation.specs.Sessions.{Transfer}
use Rattle.isolation.specs.Calendar.{Calendar, next_calendar}
use Rattle.isolation.specs.Reckoning.{Item, none, item, Reckoned, owed, leaves_in, next_item, cycle_on, start_on, store_on, at_load}
use Rattle.isolation.proofs.Flights.Trajectory.{opens_both, move_opens, move_sends, move_rests}
use Rattle.isolation.proofs.Flights.Deliver.{leaving_of, leaving_now}
use Rattle.isolation.proofs.Reckoning.Dates.{Dated, next_cycles}

-- the cycle in which the packet under way was opened: its words leave in the cycles after that one, and so many are still to go
pub record Opened (packet_words : ℕ → ℕ) (cycles to_go : ℕ) : Type 0 where
  pub start : ℕ
  pub before : start < cycles
  pub last : start + packet_words start + 1 ≡ cycles + to_go

-- a circuit's reckoning shows what its sender holds: words left, the next word's addresses and kind while there are some, and the
-- packet under way
pub record Sends (n : ℕ) (r : Reckoned) (x : Sender) : Type 0 where
  pub gone_most : r.sent.gone ≤ r.transfer.count
  pub left_is : owed r ≡ x.left
  pub read_at : 0 < x.left → r.transfer.read_address + r.sent.gone ≡ x.read_address
  pub write_at : 0 < x.left → r.transfer.write_address + r.sent.gone ≡ x.write_address
  pub kind_is : 0 < x.left → r.transfer.kind ≡ x.kind
  pub opened_before : (s : ℕ) → s < n → s + r.sent.packet_words s < n + x.to_go
  pub under_way_is : 0 < x.to_go → Opened r.sent.packet_words n x.to_go

-- while words of a packet are still to go, the reckoning has one leave
pub leaves_yes : (n : ℕ) (r : Reckoned) (x : Sender) → Sends n r x → 0 < x.to_go → leaves_in r n ≡ true
unfolding leaves_in
leaves_yes n r x h going =
    let u = h.under_way_is going in
    any_at n (λ s. n ≤? s + r.sent.packet_words s) u.start u.before (yes≤ (omega (arith, u.last)))

-- and otherwise none
pub leaves_no : (n : ℕ) (r : Reckoned) (x : Sender) → Sends n r x → x.to_go ≡ 0 → leaves_in r n ≡ false
unfolding leaves_in
leaves_no n r x h over = any_none n (λ s. n ≤? s + r.sent.packet_words s) (λ s l. no≤ (omega (arith, h.opened_before s l)))

-- in a cycle in which none is opened, the reckoning opens none: no slot begins, or no words are left
opens_none : (slot : ℕ) (x : Sender) → (move slot x ≡ opens → ⊥) → min (slot - 1) x.left ≡ 0
opens_none slot x h = go (dec_lt 0 slot) (dec_lt 0 x.left)
  where
    go : Dec (0 < slot) → Dec (0 < x.left) → min (slot - 1) x.left ≡ 0
    go (yes p) (yes q) = absurd (h (opens_both slot x p q))
    go (yes p) (no q) = omega arith
    go (no p) d = omega arith

-- a circuit that does not reopen: where a slot begins with words left, none of the packet before it is still to go
pub not_reopened : (z : List ℕ) (v : View) (circuit : ℕ) → reopens z v circuit ≡ false → 0 < slot_now z v circuit
    → 0 < (v.sender circuit).left → (v.sender circuit).to_go ≡ 0
unfolding reopens
not_reopened z v circuit e p q = go (ℕ_discrete (v.sender circuit).to_go 0)
  where
    go : Dec ((v.sender circuit).to_go ≡ 0) → (v.sender circuit).to_go ≡ 0
    go (yes n) = n
    go (no n) =
        let t : (1 ≤? slot_now z v circuit and 1 ≤? (v.sender circuit).left and 1 ≤? (v.sender circuit).to_go) ≡ true =
        and_both (yes≤ p) (and_both (yes≤ q) (yes≤ (omega (arith, n)))) in
        absurd (false≢true (sym e ∙ t))

-- two moves are not the same
rests_opens : rests ≡ opens → ⊥
rests_opens e = let n : ◌≡◌ {A = ℕ} 0 1 = cc in omega arith

sends_opens : sends ≡ opens → ⊥
sends_opens e = let n : ◌≡◌ {A = ℕ} 0 1 = cc in omega arith

module _ (z : List ℕ) (circuit : ℕ) (k : Calendar) (r : Reckoned) where
  -- the payload words of a packet that the reckoning opens in this cycle
  abbrev opened_now : ℕ
  opened_now = min (slot_length z k.schedule k.cycle circuit - 1) (owed r)

  -- after a cycle: what was opened in it, and in the cycles before
  opened_now_is : (cycle_on z circuit k r).sent.packet_words k.cycles ≡ opened_now
  opened_now_is = ap (λ b. pick b opened_now (r.sent.packet_words k.cycles)) (yes= refl)

  opened_earlier : (s : ℕ) → s < k.cycles → (cycle_on z circuit k r).sent.packet_words s ≡ r.sent.packet_words s
  opened_earlier s l =
      let ne : s ≡ k.cycles → ⊥ = λ e. omega arith in
      ap (λ b. pick b opened_now (r.sent.packet_words s)) (no= ne)

  -- a packet opened in a cycle before, and in this one, after the cycle
  opened_on : (to_go : ℕ) → Opened r.sent.packet_words k.cycles (suc to_go)
      → Opened (cycle_on z circuit k r).sent.packet_words (k.cycles + 1) to_go
  opened_on to_go u = record {
    start = u.start;
    before = omega (arith, u.before);
    last = omega (arith, u.last, opened_earlier u.start u.before);
  }

  opened_here : (to_go : ℕ) → opened_now ≡ to_go → Opened (cycle_on z circuit k r).sent.packet_words (k.cycles + 1) to_go
  opened_here to_go e = record {
    start = k.cycles;
    before = omega arith;
    last = omega (arith, e, opened_now_is);
  }

  -- each packet's last word has left or is still to go, after the cycle
  opened_all : (to_go after : ℕ) → ((s : ℕ) → s < k.cycles → s + r.sent.packet_words s < k.cycles + to_go) → to_go ≤ after + 1
      → opened_now ≤ after → (s : ℕ) → s < k.cycles + 1 → s + (cycle_on z circuit k r).sent.packet_words s < k.cycles + 1 + after
  opened_all to_go after h a b s l = go (ℕ_discrete s k.cycles)
    where
      go : Dec (s ≡ k.cycles) → s + (cycle_on z circuit k r).sent.packet_words s < k.cycles + 1 + after
      go (yes e) = rw e (omega (arith, opened_now_is))
      go (no ne) =
          let earlier : s < k.cycles = omega (arith, ne) in
          omega (arith, h s earlier, opened_earlier s earlier)

  -- the words gone after a cycle in which one leaves, or none
  gone_more : leaves_in r k.cycles ≡ true → (cycle_on z circuit k r).sent.gone ≡ r.sent.gone + 1
  gone_more e = ap (λ b. r.sent.gone + pick b 1 0) e

  gone_same : leaves_in r k.cycles ≡ false → (cycle_on z circuit k r).sent.gone ≡ r.sent.gone
  gone_same e = ap (λ b. r.sent.gone + pick b 1 0) e ∙ add-zero r.sent.gone

-- one word less is left
one_less : (count gone left : ℕ) → count - gone ≡ left → count - (gone + 1) ≡ left - 1
one_less count gone left e = omega arith

-- a cycle, by the sender's move
sends_moved : (z : List ℕ) (circuit : ℕ) (k : Calendar) (r : Reckoned) (slot : ℕ) (x : Sender) (m : Move) → move slot x ≡ m
    → slot_length z k.schedule k.cycle circuit ≡ slot → Sends k.cycles r x → x.to_go ≤ x.left
    → (0 < slot → 0 < x.left → x.to_go ≡ 0) → Sends (k.cycles + 1) (cycle_on z circuit k r) (step_sender m slot x)
sends_moved z circuit k r slot x rests e same h f o =
    let over : x.to_go ≡ 0 = move_rests slot x e in
    let gone : (cycle_on z circuit k r).sent.gone ≡ r.sent.gone = gone_same z circuit k r (leaves_no k.cycles r x h over) in
    let now : opened_now z circuit k r ≡ 0 =
    ap₂ (λ a b. min (a - 1) b) same h.left_is ∙ opens_none slot x (λ p. rests_opens (sym e ∙ p)) in
    record {
      gone_most = omega (arith, gone, h.gone_most);
      left_is = ap (λ n. r.transfer.count - n) gone ∙ h.left_is;
      read_at = λ l. ap (λ n. r.transfer.read_address + n) gone ∙ h.read_at l;
      write_at = λ l. ap (λ n. r.transfer.write_address + n) gone ∙ h.write_at l;
      kind_is = h.kind_is;
      opened_before = opened_all z circuit k r x.to_go x.to_go h.opened_before (omega arith) (omega (arith, now));
      under_way_is = λ l. absurd (omega arith);
    }
sends_moved z circuit k r slot x opens e same h f o =
    let begun = move_opens slot x e in
    let over : x.to_go ≡ 0 = o begun.0 begun.1 in
    let gone : (cycle_on z circuit k r).sent.gone ≡ r.sent.gone = gone_same z circuit k r (leaves_no k.cycles r x h over) in
    let now : opened_now z circuit k r ≡ min (slot - 1) x.left = ap₂ (λ a b. min (a - 1) b) same h.left_is in
    record {
      gone_most = omega (arith, gone, h.gone_most);
      left_is = ap (λ n. r.transfer.count - n) gone ∙ h.left_is;
      read_at = λ l. ap (λ n. r.transfer.read_address + n) gone ∙ h.read_at l;
      write_at = λ l. ap (λ n. r.transfer.write_address + n) gone ∙ h.write_at l;
      kind_is = h.kind_is;
      opened_before =
          opened_all z circuit k r x.to_go (min (slot - 1) x.left) h.opened_before (omega arith) (omega (arith, now));
      under_way_is = λ l. opened_here z circuit k r (min (slot - 1) x.left) now;
    }
sends_moved z circuit k r slot x sends e same h f o =
    let going : 0 < x.to_go = move_sends slot x e in
    let gone : (cycle_on z circuit k r).sent.gone ≡ r.sent.gone + 1 = gone_more z circuit k r (leaves_yes k.cycles r x h going) in
    let now : opened_now z circuit k r ≡ 0 =
    ap₂ (λ a b. min (a - 1) b) same h.left_is ∙ opens_none slot x (λ p. sends_opens (sym e ∙ p)) in
    let some : 0 < x.left = omega arith in
    let back : suc (x.to_go - 1) ≡ x.to_go = omega arith in
    record {
      gone_most = omega (arith, gone, h.gone_most, h.left_is);
      left_is = ap (λ n. r.transfer.count - n) gone ∙ one_less r.transfer.count r.sent.gone x.left h.left_is;
      read_at = λ l. omega (arith, gone, h.read_at some);
      write_at = λ l. omega (arith, gone, h.write_at some);
      kind_is = λ l. h.kind_is some;
      opened_before =
          opened_all z circuit k r x.to_go (x.to_go - 1) h.opened_before (omega arith) (omega (arith, now));
      under_way_is = λ l.
          opened_on z circuit k r (x.to_go - 1) (subst (Opened r.sent.packet_words k.cycles) (sym back) (h.under_way_is going));
    }

-- what a cycle of a circuit needs: calendar and reckoning show the clock and the sender before it, the sender's packet is part of its transfer,
-- and no packet is opened while another is sent
pub record Follows (z : List ℕ) (circuit : ℕ) (k : Calendar) (r : Reckoned) (v : View) : Type 0 where
  pub dated : Dated k v
  pub sending : Sends k.cycles r (v.sender circuit)
  pub transfer : TransferParts (circuit_at z circuit) (v.sender circuit)
  pub calm : reopens z v circuit ≡ false

-- the slot reckoned is the machine's
pub slot_dated : (z : List ℕ) (circuit : ℕ) (k : Calendar) (v : View) → Dated k v
    → slot_length z k.schedule k.cycle circuit ≡ slot_now z v circuit
slot_dated z circuit k v d = ap₂ (λ s c. slot_length z s c circuit) d.schedule_is d.cycle_is

-- a cycle: the reckoning goes on as the sender does
pub sends_cycle : (z : List ℕ) (circuit : ℕ) (k : Calendar) (r : Reckoned) (v : View) → Follows z circuit k r v
    → Sends (next_calendar z k).cycles (cycle_on z circuit k r) ((tick z v).sender circuit)
sends_cycle z circuit k r v f =
    subst (λ (n : ℕ). Sends n (cycle_on z circuit k r) ((tick z v).sender circuit)) (sym (next_cycles z k))
    (sends_moved z circuit k r (slot_now z v circuit) (v.sender circuit) (move_now z v circuit) refl
    (slot_dated z circuit k v f.dated) f.sending f.transfer.to_go_at (not_reopened z v circuit f.calm))

-- a start on this circuit: the sender holds the new transfer, and its packet under way as before
pub sends_start : (n : ℕ) (transfer : Transfer) (r : Reckoned) (x y : Sender) → Sends n r x → y.to_go ≡ x.to_go
    → y.left ≡ transfer.count → y.read_address ≡ transfer.read_address → y.write_address ≡ transfer.write_address
    → y.kind ≡ transfer.kind → Sends n (start_on transfer r) y
sends_start n transfer r x y h t e a b k = record {
  gone_most = omega arith;
  left_is = omega arith;
  read_at = λ l. omega arith;
  write_at = λ l. omega arith;
  kind_is = λ l. sym k;
  opened_before = λ s l. omega (arith, h.opened_before s l);
  under_way_is = λ l. subst (Opened r.sent.packet_words n) (sym t) (h.under_way_is (omega arith));
}

-- a call that leaves the sender alone: a start on another circuit, an order, or a question
pub sends_same : (n : ℕ) (r : Reckoned) (x y : Sender) → Sends n r x → y ≡ x → Sends n r y
sends_same n r x y h e = subst (Sends n r) (sym e) h

-- a store
pub sends_store : (z : List ℕ) (circuit n node address new : ℕ) (r : Reckoned) (x : Sender) → Sends n r x
    → Sends n (store_on z circuit node address new r) x
sends_store z circuit n node address new r x h = record {
  gone_most = h.gone_most;
  left_is = h.left_is;
  read_at = h.read_at;
  write_at = h.write_at;
  kind_is = h.kind_is;
  opened_before = h.opened_before;
  under_way_is = h.under_way_is;
}

-- the load: nothing is owed and no packet is under way
pub sends_load : (z : List ℕ) (circuit : ℕ) (memory : List ℕ) (x : Sender) → x.left ≡ 0 → x.to_go ≡ 0
    → Sends 0 (at_load z circuit memory) x
sends_load z circuit memory x e t = record {
  gone_most = omega arith;
  left_is = sym e;
  read_at = λ l. absurd (omega arith);
  write_at = λ l. absurd (omega arith);
  kind_is = λ l. absurd (omega arith);
  opened_before = λ s l. absurd (omega arith);
  under_way_is = λ l. absurd (omega arith);
}

-- a landing as the reckoning writes it
abbrev pub item_of : Landing → Item
item_of nothing = none
item_of (landed kind address word) = item kind address word

-- what leaves in a cycle, by the sender's move
leaving_moved : (n : ℕ) (r : Reckoned) (slot word : ℕ) (x : Sender) (m : Move) → move slot x ≡ m → Sends n r x → x.to_go ≤ x.left
    → (0 < slot → 0 < x.left → x.to_go ≡ 0) → (0 < x.to_go → r.words.read (r.transfer.read_address + r.sent.gone) ≡ word)
    → pick (leaves_in r n) (next_item r) none ≡ item_of (leaving_of m word x)
leaving_moved n r slot word x rests e h f o w =
    ap (λ b. pick b (next_item r) none) (leaves_no n r x h (move_rests slot x e))
leaving_moved n r slot word x opens e h f o w =
    let begun = move_opens slot x e in
    ap (λ b. pick b (next_item r) none) (leaves_no n r x h (o begun.0 begun.1))
leaving_moved n r slot word x sends e h f o w =
    let going : 0 < x.to_go = move_sends slot x e in
    let some : 0 < x.left = omega arith in
    ap (λ b. pick b (next_item r) none) (leaves_yes n r x h going)
    ∙ ap (λ k. item k (r.transfer.write_address + r.sent.gone) (r.words.read (r.transfer.read_address + r.sent.gone)))
    (h.kind_is some)
    ∙ ap₂ (item x.kind) (h.write_at some) (w going)

-- what is reckoned to leave in a cycle is what the sender puts on its wire, where the word reckoned is the machine's
pub leaving_is : (z : List ℕ) (circuit : ℕ) (k : Calendar) (r : Reckoned) (v : View) → Follows z circuit k r v
    → (0 < (v.sender circuit).to_go → r.words.read (r.transfer.read_address + r.sent.gone) ≡ read_now z v circuit)
    → (cycle_on z circuit k r).sent.leaving k.cycles ≡ item_of (leaving_now z v circuit)
leaving_is z circuit k r v f w =
    ap (λ b. pick b (pick (leaves_in r k.cycles) (next_item r) none) (r.sent.leaving k.cycles)) (yes= refl)
    ∙ leaving_moved k.cycles r (slot_now z v circuit) (read_now z v circuit) (v.sender circuit) (move_now z v circuit) refl f.sending
    f.transfer.to_go_at (not_reopened z v circuit f.calm) w

-- a cycle leaves what was reckoned to leave before it
pub leaving_before : (z : List ℕ) (circuit : ℕ) (k : Calendar) (r : Reckoned) (t : ℕ) → t < k.cycles
    → (cycle_on z circuit k r).sent.leaving t ≡ r.sent.leaving t
leaving_before z circuit k r t l =
    let ne : t ≡ k.cycles → ⊥ = λ e. omega arith in
    ap (λ b. pick b (pick (leaves_in r k.cycles) (next_item r) none) (r.sent.leaving t)) (no= ne)
