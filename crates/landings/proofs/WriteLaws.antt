-- What was written: a stretch of the output, part behind part.
use Rattle.std.proofs.Common.{◌≡◌, Result, Ok, Err, OnOk, OnErr, ℕ, ◌+◌, ◌-◌, ◌≤◌, List, [], ◌++◌, None, Some, length, take, drop, sym, ap, subst, ◌∙◌, append-nil, arith, length-take-le, length-append, length-drop}
use Rattle.std.proofs.Math.Seq.{take-append-add}
use Rattle.std.proofs.lemmas.List.{take_all, take-append-le, drop-drop, take-append-drop}
use Rattle.std.specs.declared.option.Option.{Option}
use Rattle.std.specs.Io.KnownBytes.{Appends}
use Rattle.streams.specs.Written.{GotPart}
use Rattle.streams.proofs.WriteLaws.{both_written}
use Rattle.landings.specs.Output.{HasAt}

none_written : (a : Option (List ℕ)) (xs : List ℕ) → xs ≡ [] → Appends a a xs
none_written None xs e = tt
none_written (Some x) xs e = sym (append-nil x) ∙ ap (λ (l : List ℕ). x ++ l) (sym e)

-- the text from one place to another was written
pub record Written (before after : Option (List ℕ)) (text : List ℕ) (from to : ℕ) : Type 0 where
  pub ahead : from ≤ to
  pub bytes : Appends before after (take (to - from) (drop from text))

pub written_none : (a : Option (List ℕ)) (text : List ℕ) (from : ℕ) → Written a a text from from
written_none a text from = record {
  ahead = omega arith;
  bytes = none_written a _ (ap (λ n. take n (drop from text)) (let z : from - from ≡ 0 = omega arith in z));
}

-- the next part was written
pub written_more : (a b c : Option (List ℕ)) {text part : List ℕ} {from to next : ℕ}
    → Written a b text from to
    → HasAt text to part
    → Appends b c part
    → next ≡ to + length part
    → Written a c text from next
written_more a b c {text} {part} {from} {to} {next} w h p e =
    let long : length (take (to - from) (drop from text)) ≡ to - from = length-take-le (to - from) (drop from text) (omega (arith, w.ahead, h.0, length-drop from text)) in
    let behind : drop (to - from) (drop from text) ≡ drop to text = drop-drop (to - from) from text ∙ ap (λ n. drop n text) (let z : from + (to - from) ≡ to = omega (arith, w.ahead) in z) in
    record {
      ahead = omega (arith, w.ahead, e);
      bytes = both_written a b c _ _ _ w.bytes p
          (ap (λ n. take n (drop from text)) (let z : next - from ≡ to - from + length part = omega (arith, w.ahead, e) in z)
          ∙ ap (λ (l : List ℕ). take (to - from + length part) l) (sym (take-append-drop (to - from) (drop from text)))
          ∙ ap (λ n. take (n + length part) (take (to - from) (drop from text) ++ drop (to - from) (drop from text))) (sym long)
          ∙ take-append-add (take (to - from) (drop from text)) (drop (to - from) (drop from text)) (length part)
          ∙ ap (λ (l : List ℕ). take (to - from) (drop from text) ++ take (length part) l) behind
          ∙ ap (λ (l : List ℕ). take (to - from) (drop from text) ++ l) h.1);
    }

-- all behind a place was written
pub written_rest : (a b : Option (List ℕ)) {text : List ℕ} {from to start : ℕ}
    → Written a b text from to
    → to ≡ length text
    → from ≡ start
    → Appends a b (drop start text)
written_rest a b {text} {from} {to} w e f =
    subst (Appends a b)
    (take_all (to - from) (drop from text) (omega (arith, e, w.ahead, length-drop from text)) ∙ ap (λ n. drop n text) f)
    w.bytes

-- a first part of a front is one of the whole
pub got_front : (a b : Option (List ℕ)) (xs ys zs : List ℕ) → zs ≡ xs ++ ys → GotPart a b xs → GotPart a b zs
got_front a b xs ys zs e p = (
  p.0,
  omega (arith, p.1, ap length e, length-append xs ys),
  subst (Appends a b) (sym (ap (take p.0) e ∙ take-append-le p.0 xs ys p.1)) p.2,
)

-- a front was written, and a first part of the rest
pub got_behind : (a b c : Option (List ℕ)) (xs ys zs : List ℕ) → zs ≡ xs ++ ys → Appends a b xs → GotPart b c ys → GotPart a c zs
got_behind a b c xs ys zs e p q = (
  length xs + q.0,
  omega (arith, q.1, ap length e, length-append xs ys),
  both_written a b c xs (take q.0 ys) _ p q.2 (ap (take (length xs + q.0)) e ∙ take-append-add xs ys q.0),
)

-- what a writer got a first part of, by another name
pub got_as : (a b : Option (List ℕ)) (xs ys : List ℕ) → xs ≡ ys → GotPart a b xs → GotPart a b ys
got_as a b xs ys e p = subst (GotPart a b) e p

-- the text from one place to another was written, and a first part of the next part
pub got_more : (a b c : Option (List ℕ)) {text part : List ℕ} {from to start : ℕ}
    → Written a b text from to
    → HasAt text to part
    → GotPart b c part
    → from ≡ start
    → GotPart a c (drop start text)
got_more a b c {text} {part} {from} {to} {start} w h p e =
    let behind : drop (to - from) (drop from text) ≡ drop to text = drop-drop (to - from) from text ∙ ap (λ n. drop n text) (let z : from + (to - from) ≡ to = omega (arith, w.ahead) in z) in
    got_behind a b c (take (to - from) (drop from text)) (drop to text) (drop start text)
    (ap (λ n. drop n text) (sym e)
    ∙ sym (take-append-drop (to - from) (drop from text))
    ∙ ap (λ (l : List ℕ). take (to - from) (drop from text) ++ l) behind)
    w.bytes
    (got_front b c part (drop (length part) (drop to text)) (drop to text)
    (sym (take-append-drop (length part) (drop to text)) ∙ ap (λ (l : List ℕ). l ++ drop (length part) (drop to text)) h.1)
    p)

-- what was written, by another name
pub written_as : (a b : Option (List ℕ)) (xs ys : List ℕ) → xs ≡ ys → Appends a b xs → Appends a b ys
written_as a b xs ys e p = subst (Appends a b) e p

-- a text has a part at its start, and the rest behind it
pub front_and_rest : (text part : List ℕ) {place from : ℕ} → HasAt text place part → place ≡ 0 → from ≡ length part → text ≡ part ++ drop from text
front_and_rest text part {place} {from} h z e =
    sym (take-append-drop (length part) text)
    ∙ ap (λ (l : List ℕ). l ++ drop (length part) text) (ap (λ n. take (length part) (drop n text)) (sym z) ∙ h.1)
    ∙ ap (λ n. part ++ drop n text) (sym e)

-- what holds anyhow holds for an answer
pub on_ok : {T E P : Type 0} (r : Result T E) → P → OnOk r P
on_ok (Ok x) p = p
on_ok (Err e) p = tt

pub on_ok_both : {T E P Q R : Type 0} (r : Result T E) → (P → Q → R) → OnOk r P → OnOk r Q → OnOk r R
on_ok_both (Ok x) f p q = f p q
on_ok_both (Err e) f p q = tt

pub on_err : {T E P : Type 0} (r : Result T E) → P → OnErr r P
on_err (Ok x) p = tt
on_err (Err e) p = p
