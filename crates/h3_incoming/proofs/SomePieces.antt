-- Of pieces none of which is empty none gets so.
use Rattle.std.proofs.Common.{◌≡◌, ℕ, zero, suc, ◌-◌, List, [], ◌∷◌, ◌++◌, length, refl, sym, subst, arith, inl, inr, length-append}
use Rattle.std.specs.List.{concat}
use Rattle.std.proofs.lemmas.Bool.{cases_lt}
use Rattle.std.proofs.lemmas.List.{length-drop}
use Rattle.h3_frames.specs.Pieces.{with_piece, without, IsRest}
use Rattle.h3_frames.specs.PieceLaws.{without-within, without-past}
use Rattle.h3_incoming.specs.SomePieces.{AreSome}

some_append : (pieces : List (List ℕ)) (byte : ℕ) (bytes : List ℕ) → AreSome pieces → AreSome (pieces ++ (byte ∷ bytes) ∷ [])
some_append [] byte bytes h = (omega arith, tt)
some_append (p ∷ pieces) byte bytes h = (h.0, some_append pieces byte bytes h.1)

pub some_with : (pieces new : List (List ℕ)) (bytes : List ℕ) → new ≡ with_piece pieces bytes → AreSome pieces → AreSome new
some_with pieces new [] e h = subst AreSome (sym e) h
some_with pieces new (byte ∷ bytes) e h = subst AreSome (sym e) (some_append pieces byte bytes h)

some_without : (count : ℕ) (pieces : List (List ℕ)) → AreSome pieces → AreSome (without count pieces)
some_without count [] h = h
some_without zero (p ∷ pieces) h = h
some_without (suc n) (p ∷ pieces) h = elim (cases_lt (suc n) (length p)) [
  | inl less ↦ subst AreSome (sym (without-within (suc n) p pieces (omega arith) less)) (omega (arith, length-drop (suc n) p, less), h.1)
  | inr past ↦ subst AreSome (sym (without-past (suc n) p pieces (omega arith) past)) (some_without (suc n - length p) pieces h.1)
]

pub some_rest : (all new : List (List ℕ)) → IsRest all new → AreSome all → AreSome new
some_rest all new rest h = subst AreSome (sym rest.2) (some_without rest.0 all h)

-- where they have no byte, there are none
pub some_none : (pieces : List (List ℕ)) → AreSome pieces → length (concat pieces) ≡ 0 → pieces ≡ []
some_none [] h e = refl
some_none (p ∷ pieces) h e = absurd (omega (arith, h.0, length-append p (concat pieces), e))
