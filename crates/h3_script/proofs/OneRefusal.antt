-- A text is refused at one line.
use Rattle.std.proofs.Common.{◌≡◌, ℕ, ◌+◌, ◌<◌, ◌≤◌, List, [], ◌∷◌, ◌++◌, length, inl, inr, ◌⊎◌, sym, ◌∙◌, ap, arith}
use Rattle.std.proofs.lemmas.List.Sums.{sum_by-append, sum_by-cons}
use Rattle.std.proofs.lemmas.Bool.{cases_lt}
use Rattle.h3_script.specs.Script.{lines_of, said, lines_length, IsBeginning, IsRefused, TooFar, NoSetup, NoEvent, RefusesLine, At, Nothing}
use Rattle.h3_script.proofs.Scripts.{pieces_length, not_refused_in, said_at, said_parts}

-- where one of two places comes first, it is in front of the other
split : (before after front rest : List (List ℕ)) (line : List ℕ) → before ++ line ∷ after ≡ front ++ rest → length before < length front → (more : List (List ℕ)) × (front ≡ before ++ line ∷ more)
split [] after [] rest line e lt = absurd (omega (arith, lt))
split [] after (f ∷ front) rest line e lt = (front, cc)
split (b ∷ before) after [] rest line e lt = absurd (omega (arith, lt))
split (b ∷ before) after (f ∷ front) rest line e lt =
    let tails : before ++ line ∷ after ≡ front ++ rest = cc in
    let heads : f ≡ b = cc in
    let more = split before after front rest line tails (omega (arith, lt)) in
    (more.0, ap (λ x. x ∷ front) heads ∙ ap (λ xs. b ∷ xs) more.1)

-- a line that is refused begins no script that goes on
not_before : (most : ℕ) (before after front rest : List (List ℕ)) (line : List ℕ) → before ++ line ∷ after ≡ front ++ rest → length before < length front
    → IsBeginning most front → IsRefused most before line → ⊥
not_before most before after front rest line e lt begin refused =
    let more = split before after front rest line e lt in
    not_refused_in most front before more.0 line begin more.1 refused

-- where no line says anything, and none goes too far, none is refused
none_refused : (most : ℕ) (text : List ℕ) (before after : List (List ℕ)) (line : List ℕ) → lines_of text ≡ before ++ line ∷ after → said (lines_of text) ≡ [] → length text ≤ most
    → IsRefused most before line → ⊥
none_refused most text before after line is none within (TooFar far) =
    let len = λ (l : List ℕ). length l + 1 in
    omega (arith, far, within, pieces_length 10 text, ap lines_length is, sum_by-append len before (line ∷ after), sum_by-cons len line after)
none_refused most text before after line is none within (NoSetup empty kept refutes) =
    let said_is : [] ≡ said before ++ line ∷ said after = sym none ∙ said_at (lines_of text) before after line is kept in
    not_empty (said before) line (said after) said_is
  where
    not_empty : (xs : List (List ℕ)) (y : List ℕ) (ys : List (List ℕ)) → [] ≡ xs ++ y ∷ ys → ⊥
    not_empty [] y ys e = cc
    not_empty (x ∷ xs) y ys e = cc
none_refused most text before after line is none within (NoEvent some kept refutes) =
    let said_is : [] ≡ said before ++ said (line ∷ after) = sym none ∙ ap said is ∙ said_parts before (line ∷ after) in
    not_some (said before) (said (line ∷ after)) some said_is
  where
    not_some : (xs ys : List (List ℕ)) → 0 < length xs → [] ≡ xs ++ ys → ⊥
    not_some [] ys some e = absurd (omega (arith, some))
    not_some (x ∷ xs) ys some e = cc

pub one_refusal : (most : ℕ) (text : List ℕ) (m n : ℕ) → RefusesLine most text m → RefusesLine most text n → m ≡ n
one_refusal most text m n (At before after line is place begin refused) (At front rest next be number starts denied) =
    by_order (cases_lt (length before) (length front)) (cases_lt (length front) (length before))
  where
    by_order : (length before < length front) ⊎ (length front ≤ length before) → (length front < length before) ⊎ (length before ≤ length front) → m ≡ n
    by_order (inl lt) other = absurd (not_before most before after front (next ∷ rest) line (sym is ∙ be) lt starts refused)
    by_order (inr le) (inl lt) = absurd (not_before most front rest before (line ∷ after) next (sym be ∙ is) lt begin denied)
    by_order (inr le) (inr ge) = omega (arith, le, ge, place, number)
one_refusal most text m n (At before after line is place begin refused) (Nothing none within one) = absurd (none_refused most text before after line is none within refused)
one_refusal most text m n (Nothing none within one) (At before after line is place begin refused) = absurd (none_refused most text before after line is none within refused)
one_refusal most text m n (Nothing none within one) (Nothing empty small also) = one ∙ sym also
