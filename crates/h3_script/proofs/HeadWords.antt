-- The words of a head, cut behind the first.
use Rattle.std.proofs.Common.{◌≡◌, ℕ, ◌<◌, ◌≤◌, Bool, false, List, [], ◌∷◌, length, drop, get_or, Result, Ok, Err, IfOk, IfErr, sym, ap, subst, arith}
use Rattle.std.specs.Borrow.{Bor}
use Rattle.h3_header.specs.Head.{Head as Fields}
use Rattle.h3_script.specs.Pieces.{texts}
use Rattle.h3_script.specs.HeadText.{is_status, HeadBy, IsHeadText}
use Rattle.h3_script.specs.ScriptLine.{Denies}
use Rattle.h3_script.specs.declared.error.LineError.{LineError}
use Rattle.h3_script.proofs.Denials.{denies_by}

-- no words, no head
pub no_words : (refs : List (Bor (List ℕ))) → length refs < 1 → ((head : Fields) × IsHeadText (texts refs) head) → ⊥
no_words [] few h = h.1
no_words (a ∷ refs) few h = absurd (omega (arith, few))

-- a head is read by its first word
pub head_read : (refs : List (Bor (List ℕ))) (d : Bor (List ℕ)) (rest : List (Bor (List ℕ))) (b : Bool) → 1 ≤ length refs → rest ≡ drop 1 refs
    → is_status (get_or refs 0 d).now ≡ b → (r : Result Fields LineError) → IfOk r (HeadBy b (get_or refs 0 d).now (texts rest)) → IfOk r (IsHeadText (texts refs))
head_read [] d rest b few drops is r h = absurd (omega (arith, few))
head_read (a ∷ refs) d rest b few drops is (Err e) h = tt
head_read (a ∷ refs) d rest b few drops is (Ok head) h =
    subst (λ status. HeadBy status a.now (texts refs) head) (sym is) (subst (λ ws. HeadBy b a.now (texts ws) head) drops h)

-- and is denied by it
pub head_denied : (refs : List (Bor (List ℕ))) (d : Bor (List ℕ)) (rest : List (Bor (List ℕ))) (b : Bool) → 1 ≤ length refs → rest ≡ drop 1 refs
    → is_status (get_or refs 0 d).now ≡ b → (r : Result Fields LineError) → IfErr r (Denies ((head : Fields) × HeadBy b (get_or refs 0 d).now (texts rest) head))
    → IfErr r (Denies ((head : Fields) × IsHeadText (texts refs) head))
head_denied [] d rest b few drops is r h = absurd (omega (arith, few))
head_denied (a ∷ refs) d rest b few drops is (Ok head) h = tt
head_denied (a ∷ refs) d rest b few drops is (Err e) h =
    denies_by _ _ e (λ says. (says.0, subst (λ ws. HeadBy b a.now (texts ws) says.0) (sym drops) (subst (λ status. HeadBy status a.now (texts refs) says.0) is says.1))) h

-- a method alone is no head
pub no_uri : (refs : List (Bor (List ℕ))) (d : Bor (List ℕ)) (rest : List (Bor (List ℕ))) → 1 ≤ length refs → rest ≡ drop 1 refs → length rest ≡ 0
    → is_status (get_or refs 0 d).now ≡ false → ((head : Fields) × IsHeadText (texts refs) head) → ⊥
no_uri [] d rest few drops none is h = absurd (omega (arith, few))
no_uri (a ∷ []) d rest few drops none is h = subst (λ status. HeadBy status a.now [] h.0) is h.1
no_uri (a ∷ b ∷ refs) d rest few drops none is h = let lengths : length rest ≡ length (b ∷ refs) = ap length drops in absurd (omega (arith, none, lengths))
