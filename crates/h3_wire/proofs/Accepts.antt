-- A round of reading the type of a stream.
use Rattle.std.proofs.Common.{◌≡◌, ◌≤◌, ℕ, List, ◌++◌, length, arith, sym, ◌∙◌, ap, ap₂, subst, append_assoc, length-append}
use Rattle.std.specs.List.{concat}
use Rattle.h3_wire.specs.Source.{Answer, Asked, coming}
use Rattle.h3_wire.proofs.Asking.{asked_then}
use Rattle.h3_wire.specs.Accepting.{Accepting, start_from, all_left}

-- The bytes from old on begin as those from start on.
abbrev pub BeginAlike : {S : Type 0} → (S → List ℕ) → Accepting S → Accepting S → Type 0
BeginAlike rest old new = (more : List ℕ) → start_from new.kind new.id (all_left rest new ++ more) ≡ start_from old.kind old.id (all_left rest old ++ more)

module _ {S : Type 0} (rest : S → List ℕ) (old mid : Accepting S) (source : mid.source ≡ old.source) (is_eos : mid.is_eos ≡ old.is_eos) where
  left_of_mid : all_left rest mid ≡ concat mid.pieces ++ coming old.is_eos (rest old.source)
  left_of_mid = ap₂ (λ e s. concat mid.pieces ++ coming e (rest s)) is_eos source

  -- what was read of type and id was taken
  pub takes_on : ((more : List ℕ) → start_from mid.kind mid.id (concat mid.pieces ++ more) ≡ start_from old.kind old.id (concat old.pieces ++ more)) → BeginAlike rest old mid
  takes_on takes more =
      let behind = coming old.is_eos (rest old.source) in
      ap (λ l. start_from mid.kind mid.id (l ++ more)) left_of_mid
      ∙ ap (start_from mid.kind mid.id) (append_assoc (concat mid.pieces) behind more)
      ∙ takes (behind ++ more)
      ∙ ap (start_from old.kind old.id) (sym (append_assoc (concat old.pieces) behind more))

  pub takes_no_more : length (concat mid.pieces) ≤ length (concat old.pieces) → length (all_left rest mid) ≤ length (all_left rest old)
  takes_no_more fewer =
      let behind = coming old.is_eos (rest old.source) in
      omega (arith, ap length left_of_mid, length-append (concat mid.pieces) behind, length-append (concat old.pieces) behind, fewer)

-- and the source was asked
pub asks_on : {S : Type 0} (rest : S → List ℕ) (start old mid new : Accepting S) → BeginAlike rest start old → BeginAlike rest old mid → all_left rest new ≡ all_left rest mid → new.kind ≡ mid.kind → new.id ≡ mid.id → BeginAlike rest start new
asks_on rest start old mid new a b all kind id more =
    ap (λ l. start_from new.kind new.id (l ++ more)) all ∙ ap₂ (λ k i. start_from k i (all_left rest mid ++ more)) kind id ∙ b more ∙ a more

pub asked_on : {S : Type 0} (answers : S → Answer → S → Type 0) (start old mid new : S) → Asked answers start old → mid ≡ old → Asked answers mid new → Asked answers start new
asked_on answers start old mid new a e b = asked_then answers start old new a (subst (λ s. Asked answers s new) e b)
