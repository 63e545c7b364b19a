-- What a writer got, write behind write.
-- Assumes nothing.
use Rattle.std.proofs.Common.{◌≡◌, ℕ, ◌+◌, ◌-◌, ◌≤◌, List, ◌++◌, None, Some, length, take, drop, sym, ap, ◌∙◌, append_assoc, length-take-le}
use Rattle.std.proofs.Math.Seq.{take-append-add}
use Rattle.std.proofs.lemmas.List.{take_rest, take-append-drop}
use Rattle.std.specs.declared.option.Option.{Option}
use Rattle.std.specs.Io.KnownBytes.{Keeps, Appends}

-- two writes, one behind the other
pub both_written : (a b c : Option (List ℕ)) (xs ys zs : List ℕ) → Appends a b xs → Appends b c ys → zs ≡ xs ++ ys → Appends a c zs
both_written None b c xs ys zs p q e = tt
both_written (Some x) None c xs ys zs p q e = absurd p
both_written (Some x) (Some y) None xs ys zs p q e = absurd q
both_written (Some x) (Some y) (Some z) xs ys zs p q e =
    q ∙ ap (λ (l : List ℕ). l ++ ys) p ∙ append_assoc x xs ys ∙ ap (λ (l : List ℕ). x ++ l) (sym e)

-- a write that took nothing
pub kept_written : (a b c : Option (List ℕ)) (xs : List ℕ) → Appends a b xs → Keeps b c → Appends a c xs
kept_written None b c xs p q = tt
kept_written (Some x) None c xs p q = absurd p
kept_written (Some x) (Some y) None xs p q = absurd q
kept_written (Some x) (Some y) (Some z) xs p q = q ∙ p

-- a text's front was written, and some of what is behind it
pub front_more : (a b c : Option (List ℕ)) (text : List ℕ) (done n : ℕ)
    → done ≤ length text
    → Appends a b (take done text)
    → Appends b c (take n (take (length text - done) (drop done text)))
    → Appends a c (take (done + n) text)
front_more a b c text done n l p q =
    both_written a b c _ _ _ p q
    (ap (take (done + n)) (sym (take-append-drop done text))
    ∙ ap (λ k. take (k + n) (take done text ++ drop done text)) (sym (length-take-le done text l))
    ∙ take-append-add (take done text) (drop done text) n
    ∙ ap (λ (x : List ℕ). take done text ++ take n x) (sym (take_rest text done)))
