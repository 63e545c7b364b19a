-- What a sender's move shows, and that its step keeps its transfer within its regions.
-- Assumes nothing.
use Rattle.std.proofs.Common.{◌≡◌, ℕ, ◌<◌, ◌≤◌, Bool, true, false, sym, refl, ap, ◌∙◌, arith}
use native.Mathlib.Decide.{ℕ_discrete}
use Rattle.words.specs.Tests.{◌and◌, ◌≤?◌}
use Rattle.words.specs.Words.{pick}
use Rattle.words.proofs.TestLaws.{and_both, and_left, and_right, is≤, yes≤}
use Rattle.sheet.specs.declared.circuits.Circuit.{Circuit}
use Rattle.network.specs.View.{Sender}
use Rattle.network.specs.Cycle.{Move, rests, opens, sends, move, step_sender}
use Rattle.soundness.proofs.SoundLaws.{TransferParts}

-- a sender's move, by whether it opens a packet and whether words are to go
abbrev moving : Bool → Bool → Move
moving opening going = pick opening opens (pick going sends rests)

-- a slot that begins with words left opens a packet
pub opens_both : (slot : ℕ) (x : Sender) → 0 < slot → 0 < x.left → move slot x ≡ opens
opens_both slot x p q = ap (λ (a : Bool). moving a (1 ≤? x.to_go)) (and_both (yes≤ p) (yes≤ q))

-- what a sender's move shows
pub move_opens : (slot : ℕ) (x : Sender) → move slot x ≡ opens → (0 < slot) × (0 < x.left)
move_opens slot x e = go (1 ≤? slot and 1 ≤? x.left) (1 ≤? x.to_go) refl e
  where
    go : (a c : Bool) → (1 ≤? slot and 1 ≤? x.left) ≡ a → moving a c ≡ opens → (0 < slot) × (0 < x.left)
    go true c p m = (is≤ 1 slot (and_left _ _ p), is≤ 1 x.left (and_right (1 ≤? slot) _ p))
    go false true p m = absurd (let n : ◌≡◌ {A = ℕ} 0 1 = cc in omega arith)
    go false false p m = absurd (let n : ◌≡◌ {A = ℕ} 0 1 = cc in omega arith)

pub move_sends : (slot : ℕ) (x : Sender) → move slot x ≡ sends → 0 < x.to_go
move_sends slot x e = go (1 ≤? slot and 1 ≤? x.left) (1 ≤? x.to_go) refl e
  where
    go : (a c : Bool) → (1 ≤? x.to_go) ≡ c → moving a c ≡ sends → 0 < x.to_go
    go a true q m = is≤ 1 x.to_go q
    go true false q m = absurd (let n : ◌≡◌ {A = ℕ} 0 1 = cc in omega arith)
    go false false q m = absurd (let n : ◌≡◌ {A = ℕ} 0 1 = cc in omega arith)

pub move_rests : (slot : ℕ) (x : Sender) → move slot x ≡ rests → x.to_go ≡ 0
move_rests slot x e = go (ℕ_discrete x.to_go 0)
  where
    still : (a : Bool) → moving a true ≡ rests → x.to_go ≡ 0
    still true m = absurd (let n : ◌≡◌ {A = ℕ} 0 1 = cc in omega arith)
    still false m = absurd (let n : ◌≡◌ {A = ℕ} 0 1 = cc in omega arith)

    go : Dec (x.to_go ≡ 0) → x.to_go ≡ 0
    go (yes q) = q
    go (no q) =
        let some : (1 ≤? x.to_go) ≡ true = yes≤ (omega (arith, q)) in
        still (1 ≤? slot and 1 ≤? x.left) (sym (ap (moving (1 ≤? slot and 1 ≤? x.left)) some) ∙ e)

-- a sender's step keeps its transfer within its regions
pub transfer_step : (circuit : Circuit) (slot : ℕ) (x : Sender) (m : Move) → move slot x ≡ m → TransferParts circuit x
    → TransferParts circuit (step_sender m slot x)
transfer_step circuit slot x rests e f = f
transfer_step circuit slot x opens e f =
    record { to_go_at = omega arith; travels = f.travels; single = f.single; reads = f.reads; writes = f.writes }
transfer_step circuit slot x sends e f =
    let going : 0 < x.to_go = move_sends slot x e in
    let some : 1 ≤ x.left = omega (arith, f.to_go_at) in
    record {
      to_go_at = omega (arith, f.to_go_at);
      travels = λ l. f.travels some;
      single = λ l k. omega (arith, f.single some k);
      reads = λ l. record { low = omega (arith, (f.reads some).low); high = omega (arith, (f.reads some).high) };
      writes = λ l. record { low = omega (arith, (f.writes some).low); high = omega (arith, (f.writes some).high) };
    }
