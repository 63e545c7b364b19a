-- A header gives back the three parts that it was built from, and its number is 0 exactly where they fit.
-- Assumes nothing.
use Prim.Native.Nat.{ℕ, ◌+◌, ◌*◌, ◌/◌, ◌%◌, ◌<◌, ◌≤◌}
use mathlib.Core.Bool.{Bool, true, false}
use mathlib.Core.Path.{◌≡◌, refl, sym, ◌∙◌, ap}
use native.Mathlib.Omega.{arith}
use Rattle.std.specs.Prelude.{Result}
use Rattle.std.specs.declared.result.Result.TheVariants.{Ok, Err}
use Rattle.words.specs.Words.{pick, tab}
use Rattle.words.proofs.TestLaws.{and_no, and_skip, and_both, and_left, and_right, yes<, no<, is<}
use Rattle.words.specs.Numbers.{unless}
use Rattle.words.proofs.NumberLaws.{unless_zero}
use Rattle.packet.specs.Header.{FourKinds, kind_bits, address_bits, route_bits, header_word, kind_of}
use Rattle.packet.specs.Header.{address_of, route_of, kinds, addresses, routes, parts_fit, header_number, built_of, shifted_word}
use Rattle.packet.specs.declared.Header.{Header}

-- the four kinds are what the kind field can hold, in order
pub four_kinds : FourKinds
unfolding tab
four_kinds = refl

-- the three fields fill a word of 32 bits
pub fields_fill : kind_bits + address_bits + route_bits ≡ 32
fields_fill = refl

-- the parts of a header that fit their fields
pub record Fits (kind address route : ℕ) : Type 0 where
  pub kind_fits : kind < kinds
  pub address_fits : address < addresses
  pub route_fits : route < routes

pub record GivenBack (kind address route : ℕ) : Type 0 where
  pub kind_back : kind_of (header_word kind address route) ≡ kind
  pub address_back : address_of (header_word kind address route) ≡ address
  pub route_back : route_of (header_word kind address route) ≡ route

pub given_back : (kind address route : ℕ) → Fits kind address route → GivenBack kind address route
given_back kind address route f =
    record { kind_back = omega arith; address_back = omega arith; route_back = omega arith }

-- a header that was built had parts that fit
pub built_fits : (kind address route : ℕ) → header_number kind address route ≡ 0 → Fits kind address route
unfolding header_number parts_fit
built_fits kind address route e =
    let h = unless_zero 15 (parts_fit kind address route) (omega arith) e in
    let h₁ = and_right _ _ h in
    record { kind_fits = is< _ _ (and_left _ _ h); address_fits = is< _ _ (and_left _ _ h₁); route_fits = is< _ _ (and_right _ _ h₁) }

-- so a header that was built gives its parts back
pub built_gives_back : (kind address route : ℕ) → header_number kind address route ≡ 0 → GivenBack kind address route
built_gives_back kind address route e = given_back kind address route (built_fits kind address route e)

-- the answer where a part is too wide, and where none is
module _ (kind address route : ℕ) where
  abbrev Answer : Result Header ℕ → Type 0
  Answer r = r ≡ built_of (header_number kind address route) (header_word kind address route)

  answer : (b : Bool) → parts_fit kind address route ≡ b → Answer (built_of (pick b 0 15) (header_word kind address route))
  unfolding header_number unless
  answer b e = ap (λ (t : Bool). built_of (pick t 0 15) (header_word kind address route)) (sym e)

  pub kind_wide : kinds ≤ kind → Answer (Err 15)
  unfolding parts_fit
  kind_wide h = answer false (sym (and_no _ (no< h)))

  pub address_wide : addresses ≤ address → Answer (Err 15)
  unfolding parts_fit
  address_wide h = answer false (sym (and_skip _ (and_no _ (no< h))))

  pub route_wide : routes ≤ route → Answer (Err 15)
  unfolding parts_fit
  route_wide h = answer false (sym (and_skip _ (and_skip _ (sym (no< h)))))

  pub all_fit : Fits kind address route → Answer (Ok (record { 0 = header_word kind address route }))
  unfolding parts_fit
  all_fit f = answer true (and_both (yes< f.kind_fits) (and_both (yes< f.address_fits) (yes< f.route_fits)))

-- the route of a header is shifted, its kind and its address stay
pub shifted_kind : (word : ℕ) → kind_of (shifted_word word) ≡ kind_of word
shifted_kind word = omega arith

pub shifted_address : (word : ℕ) → address_of (shifted_word word) ≡ address_of word
shifted_address word =
    let q : shifted_word word / 65536 ≡ kind_of word * 16384 + address_of word = omega arith in
    ap (λ (n : ℕ). n % 16384) q ∙ back (kind_of word) (address_of word) (omega arith)
  where
    back : (kind address : ℕ) → address < 16384 → (kind * 16384 + address) % 16384 ≡ address
    back kind address l = omega arith
