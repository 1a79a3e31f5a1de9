-- What the fields from a place on hold.
use Rattle.std.proofs.Common.{◌≡◌, ℕ, ◌+◌, Bool, true, false, ◌||◌, cond, List, ◌∷◌, drop, Some, ap, ◌∙◌, sym}
use Rattle.std.specs.List.{list_any, slice_get}
use Rattle.std.proofs.lemmas.List.{drop_more}
use Rattle.std.proofs.lemmas.Option.{get_or_from_slice_get, slice_get_within}
use Rattle.h3_field.specs.Field.{Field}
use Rattle.h3_messages.specs.Messages.{has_name, value_of}

module _ (fields : List Field) (i : ℕ) (f : Field) (at : slice_get fields i ≡ Some f) where
  drop_here : drop i fields ≡ f ∷ drop (i + 1) fields
  drop_here = drop_more fields i f (slice_get_within fields i f at) ∙ ap (λ g. g ∷ drop (i + 1) fields) (get_or_from_slice_get fields i f f at)

  pub value_here : (name : List ℕ) → has_name name f ≡ true → value_of name (drop i fields) ≡ f.value
  value_here name is = ap (value_of name) drop_here ∙ ap (λ b. cond b f.value (value_of name (drop (i + 1) fields))) is

  pub value_later : (name : List ℕ) → has_name name f ≡ false → value_of name (drop (i + 1) fields) ≡ value_of name (drop i fields)
  value_later name is = sym (ap (value_of name) drop_here ∙ ap (λ b. cond b f.value (value_of name (drop (i + 1) fields))) is)

  pub any_here : (p : Field → Bool) → p f ≡ true → list_any p (drop i fields) ≡ true
  any_here p is = ap (list_any p) drop_here ∙ ap (λ b. b || list_any p (drop (i + 1) fields)) is

  pub any_later : (p : Field → Bool) → p f ≡ false → list_any p (drop (i + 1) fields) ≡ list_any p (drop i fields)
  any_later p is = sym (ap (list_any p) drop_here ∙ ap (λ b. b || list_any p (drop (i + 1) fields)) is)
