-- What a list costs and which rule it breaks rests on its names and values alone, whichever flags its fields have.
use Rattle.std.proofs.Common.{◌≡◌, ℕ, ◌+◌, Bool, List, [], ◌∷◌, length, if◌then◌else◌, Option, None, refl, sym, ap, ◌∙◌}
use Rattle.std.specs.Prelude.{option_map}
use Rattle.std.proofs.lemmas.List.Sums.{sum_by-cons}
use Rattle.h3_field.specs.Field.{Field, flagged, with_flags, field_size, section_size}
use Rattle.h3_messages.specs.FlagLaws.{own_requests_alike, own_trailers_alike, own_answers_alike}
use Rattle.h3_proto.specs.declared.stream.Side.{Side}
use Rattle.h3_proto.specs.declared.stream.Side.TheVariants.{Client, Server}
use Rattle.h3_connection.specs.Sending.{fields_cost}
use Rattle.h3_connection.specs.StrictMessages.{malformation_by}
use Rattle.h3_connection.specs.StrictSending.{broken_head, broken_trailer, peer_connects, violation_of_own_head}
use Rattle.h3_connection.specs.declared.setup.Announced.{Announced}
use Rattle.h3_messages.specs.declared.content.Content.{Content}

pub sizes_alike : (flag : Field → Bool) (fields : List Field) → section_size (with_flags flag fields) ≡ section_size fields
sizes_alike flag [] = refl
sizes_alike flag (f ∷ fields) =
    sum_by-cons field_size (flagged f (flag f)) (with_flags flag fields) ∙ ap (λ n. field_size f + n) (sizes_alike flag fields) ∙ sym (sum_by-cons field_size f fields)

pub costs_alike : (flag : Field → Bool) (fields : List Field) → fields_cost (with_flags flag fields) ≡ fields_cost fields
costs_alike flag [] = refl
costs_alike flag (f ∷ fields) = ap (λ n. length f.name + length f.value + 64 + n) (costs_alike flag fields)

head_alike : (flag : Field → Bool) (side : Side) (settings : Option (List (ℕ × ℕ))) (known : Option Content) (fields : List Field)
    → violation_of_own_head side settings known (with_flags flag fields) ≡ violation_of_own_head side settings known fields
head_alike flag Client settings known fields = own_requests_alike flag (peer_connects settings) fields
head_alike flag Server settings known fields = own_answers_alike flag known fields

pub broken_heads_alike : (flag : Field → Bool) (side : Side) (own : Announced) (settings : Option (List (ℕ × ℕ))) (known : Option Content) (fields : List Field)
    → broken_head side own settings known (with_flags flag fields) ≡ broken_head side own settings known fields
broken_heads_alike flag side own settings known fields =
    ap (λ v. if own.choices.strict_messages then option_map malformation_by v else None) (head_alike flag side settings known fields)

pub broken_trailers_alike : (flag : Field → Bool) (own : Announced) (fields : List Field) → broken_trailer own (with_flags flag fields) ≡ broken_trailer own fields
broken_trailers_alike flag own fields = ap (λ v. if own.choices.strict_messages then option_map malformation_by v else None) (own_trailers_alike flag fields)
