-- Which name a field of a kind has.
use Rattle.std.proofs.Common.{◌≡◌, ℕ, ◌==◌, true, false, List, slice_index, Some, None, ap, refl, subst, ◌∙◌}
use Rattle.h3_field.specs.Field.{Field}
use Rattle.h3_header.specs.HeadRead.{is_name_at}
use Rattle.h3_header.specs.Reads.{kind_of}
use Rattle.h3_header.specs.declared.headers.kind.FieldKind.{FieldKind}
use Rattle.h3_messages.specs.Known.{candidate, known_at, known_of}
use Rattle.h3_messages.specs.KindLaws.{by_kind, name_is_plain}
use Rattle.h3_messages.specs.Messages.{is_pseudo}
use Rattle.h3_messages.specs.declared.known.Known.{Known}

-- the name of a kind is found as that of its kind
named_at : (name : List ℕ) (known : Known) → Some known ≡ known_at (kind_of name) → Some known ≡ known_of name
unfolding candidate
named_at name known is =
    by_kind (λ n at. Some known ≡ known_at at → Some known ≡ known_of n) (λ e. e) (λ e. e) (λ e. e) (λ e. e) (λ e. e) (λ e. e) name (λ r e. absurd (cc)) is

colon_at : (name : List ℕ) (known : Known) → Some known ≡ known_at (kind_of name) → (slice_index name 0 == 58) ≡ true
colon_at name known is =
    by_kind (λ n at. Some known ≡ known_at at → (slice_index n 0 == 58) ≡ true) (λ e. refl) (λ e. refl) (λ e. refl) (λ e. refl) (λ e. refl) (λ e. refl) name (λ r e. absurd (cc)) is

plain_at : (name : List ℕ) → is_name_at (kind_of name) name ≡ true → None ≡ known_at (kind_of name) → (slice_index name 0 == 58) ≡ false
plain_at name good is =
    by_kind (λ n at. is_name_at at n ≡ true → None ≡ known_at at → (slice_index n 0 == 58) ≡ false)
    (λ g e. absurd (cc)) (λ g e. absurd (cc)) (λ g e. absurd (cc)) (λ g e. absurd (cc)) (λ g e. absurd (cc)) (λ g e. absurd (cc)) name (λ r g e. name_is_plain name g) good is

pub kind_named : (f : Field) (at : FieldKind) (known : Known) → at ≡ kind_of f.name → Some known ≡ known_at at → Some known ≡ known_of f.name
kind_named f at known of is = named_at f.name known (is ∙ ap known_at of)

pub kind_pseudo : (f : Field) (at : FieldKind) (known : Known) → at ≡ kind_of f.name → Some known ≡ known_at at → is_pseudo f ≡ true
kind_pseudo f at known of is = colon_at f.name known (is ∙ ap known_at of)

pub kind_regular : (f : Field) (at : FieldKind) → at ≡ kind_of f.name → is_name_at at f.name ≡ true → None ≡ known_at at → is_pseudo f ≡ false
kind_regular f at of good is = plain_at f.name (subst (λ k. is_name_at k f.name ≡ true) of good) (is ∙ ap known_at of)
