-- When an instruction is longer than the limit, by what it waits for.
use Rattle.std.proofs.Common.{◌≡◌, ℕ, ◌+◌, ◌<◌, ◌≤◌, Bool, true, false, ◌&&◌, nat_lt, List, [], ◌∷◌, ◌++◌, length, take, drop, refl, ap, sym, ◌∙◌, arith, inl, inr, ◌⊎◌}
use Rattle.std.proofs.lemmas.Bool.{and_from, and_parts, and_right, cases_lt, lt-ltb, ltb-true}
use Rattle.std.proofs.lemmas.List.{length-take-le, take-append-drop, take_all}
use Rattle.h3_field.specs.Reading.{Reading, Whole, Unfinished, Bad, Stays}
use Rattle.h3_field.specs.Waiting.{goes_on}
use Rattle.h3_field.specs.declared.waiting.Wait.{Wait}
use Rattle.h3_field.specs.declared.waiting.Wait.TheVariants as wait
use Rattle.h3_proto.specs.Config.{is_limit}
use Rattle.h3_connection.specs.ExcessiveInstructions.{missing, exceeds}
use Rattle.h3_unidirectional.specs.Windows.{is_longer}

-- where there is a limit, there are no more bytes
abbrev pub IsWithin : ℕ → List ℕ → Type 0
IsWithin most bytes = is_limit most ≡ true → length bytes ≤ most

pub some_missing : (w : Wait) → goes_on w ≡ true → 0 < missing w
some_missing wait.Nothing e = absurd (cc)
some_missing wait.Integer e = omega arith
some_missing (wait.Bytes count) e = ltb-true 0 count e

-- What is not whole within the limit, where more came, is longer.
pub longer_beyond : (most : ℕ) (waiting : List ℕ → Wait) (bytes : List ℕ) → is_limit most ≡ true → most < length bytes → goes_on (waiting (take most bytes)) ≡ true → exceeds most waiting bytes ≡ true
longer_beyond most waiting [] limit more waits = absurd (omega (arith, more))
longer_beyond most waiting (first ∷ rest) limit more waits =
    let some = some_missing (waiting (take most (first ∷ rest))) waits in
    let size = length-take-le most (first ∷ rest) (omega (arith, more)) in
    and_from _ _ limit (lt-ltb most _ (omega (arith, some, size)))

pub told_beyond : (most count : ℕ) (w : Wait) → is_limit most ≡ true → most < count → is_longer most count w ≡ true
told_beyond most count w limit more = and_from _ _ limit (and_from _ _ (lt-ltb 0 count (omega (arith, more))) (lt-ltb most (count + missing w) (omega (arith, more))))

same_limits : (a : Bool) (b c : Bool) → (a ≡ true → b ≡ c) → (a && b) ≡ (a && c)
same_limits true b c h = h refl
same_limits false b c h = refl

-- Of what is not whole the wait tells whether it is longer.
pub wait_tells : (most : ℕ) (waiting : List ℕ → Wait) (bytes : List ℕ) → goes_on (waiting (take most bytes)) ≡ true → exceeds most waiting bytes ≡ is_longer most (length bytes) (waiting bytes)
wait_tells most waiting [] waits = sym (and_right (is_limit most) (nat_lt 0 0 && nat_lt most (0 + missing (waiting []))) refl)
wait_tells most waiting (first ∷ rest) waits = same_limits (is_limit most) _ _ (λ limit. by_size limit (cases_lt most (length (first ∷ rest))))
  where
    count : ℕ
    count = length (first ∷ rest)

    some : nat_lt 0 count ≡ true
    some = lt-ltb 0 count (omega arith)

    by_size : is_limit most ≡ true → (most < count) ⊎ (count ≤ most)
        → nat_lt most (length (take most (first ∷ rest)) + missing (waiting (take most (first ∷ rest)))) ≡ (nat_lt 0 count && nat_lt most (count + missing (waiting (first ∷ rest))))
    by_size limit (inl more) =
        let parts = and_parts (is_limit most) _ (longer_beyond most waiting (first ∷ rest) limit more waits) in
        parts.1 ∙ sym (and_from _ _ some (lt-ltb most (count + missing (waiting (first ∷ rest))) (omega (arith, more))))
    by_size limit (inr fits) =
        ap (λ l. nat_lt most (length l + missing (waiting l))) (take_all most (first ∷ rest) fits)
        ∙ ap (λ b. b && nat_lt most (count + missing (waiting (first ∷ rest)))) (sym some)

-- What is not whole was not whole of fewer bytes.
stayed : {A : Type 0} (more : List ℕ) (x later : Reading A) → Stays more x later → later ≡ Unfinished → x ≡ Unfinished
stayed more (Whole value rest) later stays e = absurd (let wrong : Whole value (rest ++ more) ≡ Unfinished = sym stays ∙ e in cc)
stayed more Unfinished later stays e = refl
stayed more Bad later stays e = absurd (let wrong : Bad ≡ Unfinished = sym stays ∙ e in cc)

pub unfinished_before : {A : Type 0} (read : List ℕ → Reading A) (count : ℕ) (bytes : List ℕ) → Stays (drop count bytes) (read (take count bytes)) (read (take count bytes ++ drop count bytes)) → read bytes ≡ Unfinished → read (take count bytes) ≡ Unfinished
unfinished_before read count bytes stays e = stayed (drop count bytes) (read (take count bytes)) (read (take count bytes ++ drop count bytes)) stays (ap read (take-append-drop count bytes) ∙ e)
