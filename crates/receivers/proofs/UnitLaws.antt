-- A receive unit's registers, a node's landing and its memory, from the mark and the word that were read on its memory output.
-- Assumes nothing.
use Rattle.std.proofs.Common.{◌≡◌, ℕ, ◌+◌, ◌*◌, ◌<◌, ◌≤◌, List, set, sym, ap, ◌∙◌, ap₂, mul-le-mul, arith}
use mir.Val.{bool_byte}
use Rattle.words.specs.Tests.{◌≤?◌}
use Rattle.words.specs.Words.{pick}
use Rattle.words.proofs.TestLaws.{yes=, no=, yes≤, no≤}
use Rattle.packet.specs.Header.{kind_of, address_of}
use Rattle.network.proofs.ChoiceLaws.{byte_picked}
use Rattle.network.specs.Registers.{reg, put, receive_mark, receive_kind, receive_address, landing_mark, landing_kind, landing_address, landing_word}
use Rattle.network.specs.Inner.Machine.{memory_mark, memory_word, next_receive_mark, next_receive_kind, next_receive_address, next_landing_mark}
use Rattle.receivers.specs.Inner.Written.{landing_put, receive_put, memory_put}

module _ (s : List ℕ) (node mark : ℕ) (e : mark ≡ memory_mark s node) where
  -- what the mark is and is not
  low : (n : ℕ) → mark < n → memory_mark s node < n
  low n l = omega arith

  high : (n : ℕ) → n ≤ mark → n ≤ memory_mark s node
  high n l = omega arith

  other : (mark ≡ 1 → ⊥) → memory_mark s node ≡ 1 → ⊥
  other ne h = ne (e ∙ h)

  -- the mark of the unit
  pub mark_header : mark ≡ 1 → 1 ≡ next_receive_mark s node
  unfolding next_receive_mark
  mark_header h = rw (yes= (sym e ∙ h))

  pub mark_last : (mark ≡ 1 → ⊥) → 3 ≤ mark → 0 ≡ next_receive_mark s node
  unfolding next_receive_mark
  mark_last ne l = rw (no= (other ne), yes≤ (high 3 l))

  pub mark_held : (v : ℕ) → v ≡ reg s receive_mark node → (mark ≡ 1 → ⊥) → mark < 3 → v ≡ next_receive_mark s node
  unfolding next_receive_mark
  mark_held v q ne l = rw (no= (other ne), no≤ (low 3 l)) q

  -- its kind
  pub kind_header : (kind w : ℕ) → w ≡ memory_word s node → kind ≡ kind_of w → mark ≡ 1 → kind ≡ next_receive_kind s node
  unfolding next_receive_kind
  kind_header kind w p q h = rw (yes= (sym e ∙ h)) (q ∙ ap kind_of p)

  pub kind_held : (v : ℕ) → v ≡ reg s receive_kind node → (mark ≡ 1 → ⊥) → v ≡ next_receive_kind s node
  unfolding next_receive_kind
  kind_held v q ne = rw (no= (other ne)) q

  -- its address
  pub address_header : (address w : ℕ) → w ≡ memory_word s node → address ≡ address_of w → mark ≡ 1 → address ≡ next_receive_address s node
  unfolding next_receive_address
  address_header address w p q h = rw (yes= (sym e ∙ h)) (q ∙ ap address_of p)

  pub address_next : (v : ℕ) → v ≡ reg s receive_address node → (mark ≡ 1 → ⊥) → 2 ≤ mark → v + 1 ≡ next_receive_address s node
  unfolding next_receive_address
  address_next v q ne l = rw (no= (other ne), yes≤ (high 2 l)) (ap (λ (a : ℕ). a + 1) q)

  pub address_held : (v : ℕ) → v ≡ reg s receive_address node → (mark ≡ 1 → ⊥) → mark < 2 → v ≡ next_receive_address s node
  unfolding next_receive_address
  address_held v q ne l = rw (no= (other ne), no≤ (low 2 l)) q

  -- the landing's mark
  pub landing_marked : {v : ℕ} → v ≡ bool_byte (2 ≤? mark) → v ≡ next_landing_mark s node
  unfolding next_landing_mark
  landing_marked h = h ∙ byte_picked (2 ≤? mark) ∙ ap (λ (m : ℕ). pick (2 ≤? m) 1 0) e

  -- the memories
  pub memory_kept : (m : List ℕ) (size : ℕ) → mark < 2 → m ≡ memory_put s m node size
  unfolding memory_put
  memory_kept m size l = rw (no≤ (low 2 l))

  pub memory_stored : (m : List ℕ) (size address w : ℕ) {after : List ℕ} → address ≡ reg s receive_address node → w ≡ memory_word s node
      → 2 ≤ mark → after ≡ set m (node * size + address) w → after ≡ memory_put s m node size
  unfolding memory_put
  memory_stored m size address w a q l f =
      rw (yes≤ (high 2 l)) (f ∙ ap₂ (λ (i v : ℕ). set m (node * size + i) v) a q)

-- a place in the memories fits in 64 bits
pub place_small : (node size : ℕ) → node < 16 → size < 4294967296 → node * size ≤ 68719476736
place_small node size a b = mul-le-mul {n₁ = node} {m₁ = size} {n₂ = 16} {m₂ = 4294967296} (omega arith) (omega arith)

-- the registers of a landing, set in turn
pub landing_is : (s : List ℕ) (node : ℕ) {mark kind address w : ℕ} {a b d after : List ℕ}
    → mark ≡ next_landing_mark s node
    → kind ≡ reg s receive_kind node
    → address ≡ reg s receive_address node
    → w ≡ memory_word s node
    → a ≡ put s landing_mark node mark
    → b ≡ put a landing_kind node kind
    → d ≡ put b landing_address node address
    → after ≡ put d landing_word node w
    → after ≡ landing_put s node
unfolding landing_put
landing_is s node {mark} {kind} {address} {w} p q r t e f g h =
    h
    ∙ ap₂ (λ (x : List ℕ) (v : ℕ). put x landing_word node v)
    (g
    ∙ ap₂ (λ (x : List ℕ) (v : ℕ). put x landing_address node v)
    (f ∙ ap₂ (λ (x : List ℕ) (v : ℕ). put x landing_kind node v) (e ∙ ap (put s landing_mark node) p) q)
    r)
    t

-- those of a receive unit
pub receive_is : (s : List ℕ) (node : ℕ) {mark kind address : ℕ} {a b after : List ℕ}
    → mark ≡ next_receive_mark s node
    → kind ≡ next_receive_kind s node
    → address ≡ next_receive_address s node
    → a ≡ put s receive_mark node mark
    → b ≡ put a receive_kind node kind
    → after ≡ put b receive_address node address
    → after ≡ receive_put s node
unfolding receive_put
receive_is s node {mark} {kind} {address} p q r e f g =
    g
    ∙ ap₂ (λ (x : List ℕ) (v : ℕ). put x receive_address node v)
    (f ∙ ap₂ (λ (x : List ℕ) (v : ℕ). put x receive_kind node v) (e ∙ ap (put s receive_mark node) p) q)
    r
