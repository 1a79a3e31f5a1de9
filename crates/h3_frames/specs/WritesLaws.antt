-- What several writes, one behind another, append.
use Rattle.std.proofs.Common.{◌≡◌, ℕ, List, ◌++◌, sym, ◌∙◌, ap, append_assoc, Result, Ok, Err, OnErr}
use Rattle.h3_coding.specs.Writing.{AppendsFront}

-- what holds whatever the result is
pub on_err : {T E : Type 0} {P : Type 0} (r : Result T E) → P → OnErr r P
on_err (Ok v) p = tt
on_err (Err e) p = p

pub on_err_then : {T E : Type 0} {P Q : Type 0} (r : Result T E) → (P → Q) → OnErr r P → OnErr r Q
on_err_then (Ok v) f p = tt
on_err_then (Err e) f p = f p

-- a beginning of the first part
pub begins_with : {whole a old new : List ℕ} (b : List ℕ) → whole ≡ a ++ b → AppendsFront a old new → AppendsFront whole old new
begins_with b e p = record {
  front = p.front;
  rest = p.rest ++ b;
  parts = e ∙ ap (λ l. l ++ b) p.parts ∙ append_assoc p.front p.rest b;
  appended = p.appended;
}

-- the first part, and a beginning of the second
pub begins_behind : {whole b old mid new : List ℕ} (a : List ℕ) → whole ≡ a ++ b → mid ≡ old ++ a → AppendsFront b mid new → AppendsFront whole old new
begins_behind {old = old} a e at p = record {
  front = a ++ p.front;
  rest = p.rest;
  parts = e ∙ ap (λ l. a ++ l) p.parts ∙ sym (append_assoc a p.front p.rest);
  appended = p.appended ∙ ap (λ l. l ++ p.front) at ∙ append_assoc old a p.front;
}
