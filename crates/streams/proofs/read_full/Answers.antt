use Rattle.std.proofs.Common.{◌≡◌, ℕ, ◌+◌, ◌≤◌, List, ◌++◌, None, Some, length, take, sym, ap, subst, ◌∙◌, append_assoc, arith, rules, length-take-le}
use Rattle.std.proofs.lemmas.List.{take-append-le}
use Rattle.std.proofs.Math.Seq.{take-append-add}
use Rattle.std.specs.declared.option.Option.{Option}
use Rattle.std.specs.Io.KnownBytes.{Consumes}
use Rattle.streams.proofs.read_full.Goals as goal

-- two reads, one behind the other
both_read : (a b c : Option (List ℕ)) (bs cs : List ℕ) → Consumes a b bs → Consumes b c cs → Consumes a c (bs ++ cs)
both_read None b c bs cs p q = tt
both_read (Some x) None c bs cs p q = absurd p
both_read (Some x) (Some y) None bs cs p q = absurd q
both_read (Some x) (Some y) (Some z) bs cs p q = p ∙ ap (λ l. bs ++ l) q ∙ sym (append_assoc bs cs z)

-- the buffer's start after a read into what is behind it
more_read : (a b c : Option (List ℕ)) (xs part rest : List ℕ) (done n : ℕ) → done ≤ length xs → n ≤ length part
    → Consumes a b (take done xs) → Consumes b c (take n part)
    → Consumes a c (take (done + n) (take done xs ++ (part ++ rest)))
more_read a b c xs part rest done n l k p q =
    let front : length (take done xs) ≡ done = length-take-le done xs l in
    subst (Consumes a c)
    (sym
    (ap (λ m. take (m + n) (take done xs ++ (part ++ rest))) (sym front)
    ∙ take-append-add (take done xs) (part ++ rest) n
    ∙ ap (λ l. take done xs ++ l) (take-append-le n part rest k)))
    (both_read a b c (take done xs) (take n part) p q)

pub loop-done-preserved : goal.loop-done-preserved
loop-done-preserved g c =
    (search rules, search rules, more_read _ _ _ _ _ _ _ _ c.loop-done.invariant.1 (omega (arith, c.in_ok-n.ensures.bound)) c.loop-done.invariant.2 c.in_ok-n.ensures.bytes.0)
