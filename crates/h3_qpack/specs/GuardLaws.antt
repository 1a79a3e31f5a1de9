-- The fields that an encoder takes: as they are given where it guards no secrets, and the same on each stream.
use Rattle.std.proofs.Common.{◌≡◌, ℕ, Bool, true, false, List, [], ◌∷◌, ◌++◌, length, map, refl, ◌∙◌, ap, arith, if◌then◌else◌}
use Rattle.h3_field.specs.Field.{Field}
use Rattle.h3_field.specs.Secret.{guarded}
use Rattle.h3_field.specs.SecretLaws.{unguarded}
use Rattle.h3_qpack.specs.EncoderHistory.{EncoderHistory, was_canceled, writing_on}
use Rattle.h3_qpack.specs.SectionEncoding.{guarded_fields}

pub as_given : (s : EncoderHistory) (fields : List Field) → s.choices.guards_secrets ≡ false → guarded_fields s fields ≡ fields
as_given s fields e = ap (λ b. map (guarded b) fields) e ∙ unguarded fields

pub guarded_on : (s : EncoderHistory) (stream : ℕ) (fields : List Field) → guarded_fields (writing_on s stream) fields ≡ guarded_fields s fields
guarded_on s stream fields = by_test (was_canceled s stream)
  where
    by_test : (b : Bool) → guarded_fields (if b then record s { announced = 0; capacity = 0; limit = 0; choices = record s.choices { economical = false } } else s) fields ≡ guarded_fields s fields
    by_test true = refl
    by_test false = refl

-- one field more
pub guarded_more : (guards : Bool) (fields : List Field) (f : Field) → map (guarded guards) (fields ++ f ∷ []) ≡ map (guarded guards) fields ++ guarded guards f ∷ []
guarded_more guards [] f = refl
guarded_more guards (g ∷ fields) f = ap (λ fs. guarded guards g ∷ fs) (guarded_more guards fields f)

pub guarded_count : (guards : Bool) (fields : List Field) → length (map (guarded guards) fields) ≡ length fields
guarded_count guards [] = refl
guarded_count guards (f ∷ fields) = omega (arith, guarded_count guards fields)
