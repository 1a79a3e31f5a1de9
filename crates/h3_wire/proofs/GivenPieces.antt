-- The pieces that a source gave, one asking after another.
use Rattle.std.specs.Prelude.{◌≡◌, ℕ, List, [], ◌++◌, length}
use Rattle.std.proofs.Common.{refl, sym, ◌∙◌, ap, subst, append_assoc, append-nil}
use Rattle.std.specs.List.{concat}
use Rattle.h3_wire.specs.Source.{Answer}
use Rattle.h3_frames.specs.Pieces.{IsRest}
use Rattle.h3_frames.specs.PieceLaws.{rest_same, rest_then, rest_behind, rest_is}
use Rattle.h3_wire.specs.Given.{piece_in, Gave, asked_no_more, answered, AddsPieces, PassesPieces, LeavesPieces}

module _ {S : Type 0} (answers : S → Answer → S → Type 0) where
  pub gave_once : (s t : S) (answer : Answer) → answers s answer t → Gave answers s (piece_in answer) t
  gave_once s t answer a = answered s t t answer (piece_in answer) [] a (asked_no_more t t [] refl refl) (sym (append-nil (piece_in answer)))

  pub gave_then : (s m t : S) (first second : List (List ℕ)) → Gave answers s first m → Gave answers m second t → Gave answers s (first ++ second) t
  gave_then s m t first second (asked_no_more a b given e n) q =
      subst (λ l. Gave answers a (l ++ second) t) (sym n) (subst (λ x. Gave answers x second t) e q)
  gave_then s m t first second (answered a mid b answer given others h p n) q =
      answered a mid t answer (given ++ second) (others ++ second) h (gave_then mid b t others second p q)
      (ap (λ l. l ++ second) n ∙ append_assoc (piece_in answer) others second)

  pub rest_passes : (s t : S) (old new : List (List ℕ)) → t ≡ s → IsRest old new → PassesPieces answers s old t new
  rest_passes s t old new same r = ([], asked_no_more s t [] same refl, subst (λ l. IsRest l new) (sym (append-nil old)) r)

  pub adds_passes : (s t : S) (old new : List (List ℕ)) → AddsPieces answers s old t new → PassesPieces answers s old t new
  adds_passes s t old new a = (a.0, a.1, rest_same (old ++ a.0) new a.2)

  -- bytes are passed, more pieces are given, and more bytes are passed
  pub passes_then : (s m t : S) (old mid new : List (List ℕ)) → PassesPieces answers s old m mid → PassesPieces answers m mid t new → PassesPieces answers s old t new
  passes_then s m t old mid new a b =
      let there = rest_behind (old ++ a.0) mid b.0 a.2 in
      (a.0 ++ b.0, gave_then s m t a.0 b.0 a.1 b.1, subst (λ l. IsRest l new) (append_assoc old a.0 b.0) (rest_then ((old ++ a.0) ++ b.0) (mid ++ b.0) new there b.2))

  pub passes_is : (size : ℕ) (s t : S) (old new : List (List ℕ)) → length (concat new) ≡ size → PassesPieces answers s old t new → LeavesPieces answers size s old t new
  passes_is size s t old new e a = (a.0, a.1, rest_is size (old ++ a.0) new (sym e) a.2)
