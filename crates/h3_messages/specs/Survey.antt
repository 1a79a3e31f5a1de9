-- What one walk over a list finds, by the definitions of the rules.
use Rattle.std.specs.Prelude.{ℕ, Bool, false, ◌≡◌, ◌&&◌, ◌||◌, ◌==◌, not, if◌then◌else◌, List, codes, slice_index_or, is_some}
use Rattle.std.specs.Int.{bit_at}
use Rattle.std.specs.List.{list_any}
use Rattle.h3_field.specs.Field.{Field}
use Rattle.h3_messages.specs.Known.{place, text, known_of}
use Rattle.h3_messages.specs.Messages.{has_name, holds, repeats, value_of, is_pseudo, pseudo_first, is_te_wrong, is_word, has_space_around}
use Rattle.h3_messages.specs.declared.known.Known.{Known}
use Rattle.h3_messages.specs.declared.name_set.NameSet.{NameSet}
use Rattle.h3_messages.specs.declared.slot.Slot.{Slot}
use Rattle.h3_messages.specs.declared.seen.Seen.{Seen}

-- a pseudo-header field that neither requests nor responses have
abbrev pub is_unknown_pseudo : Field → Bool
is_unknown_pseudo f = is_pseudo f && not (is_some (known_of f.name))

-- a te that is not trailers
abbrev pub is_wrong_te : Field → Bool
is_wrong_te f = has_name (codes "te") f && not (is_word (codes "trailers") f.value)

-- whether a set has the name
abbrev pub has : Known → NameSet → Bool
has k names = bit_at names.bits (place k) == 1

-- what a list holds of all that the rules ask
pub record IsSeen (fields : List Field) (seen : Seen) : Type 0 where
  pub values : (k : Known) (d : Slot) → (slice_index_or seen.slots (place k) d).value.now ≡ value_of (text k) fields
  pub there : (k : Known) → has k seen.there ≡ holds (text k) fields
  pub repeated : (k : Known) → has k seen.repeated ≡ repeats (text k) fields
  pub has_regular : seen.has_regular ≡ list_any (λ f. not (is_pseudo f)) fields
  pub is_out_of_order : seen.is_out_of_order ≡ not (pseudo_first fields)
  pub pseudo_are_known : list_any is_unknown_pseudo fields ≡ false
  pub has_wrong_te : seen.has_wrong_te ≡ is_te_wrong fields
  pub has_spaced_value : seen.has_spaced_value ≡ list_any has_space_around fields

-- what is seen of one name, behind a field with this value, where the field has the name or not
pub record TakesName (is_its : Bool) (its : List ℕ) (k : Known) (before after : Seen) : Type 0 where
  pub value :
      (d : Slot) → (slice_index_or after.slots (place k) d).value.now ≡ (if has k before.there then (slice_index_or before.slots (place k) d).value.now else (if is_its then its else (slice_index_or before.slots (place k) d).value.now))
  pub there : has k after.there ≡ (has k before.there || is_its)
  pub repeated : has k after.repeated ≡ (has k before.repeated || (has k before.there && is_its))

-- all of it behind one field more
pub record TakesField (f : Field) (before after : Seen) : Type 0 where
  pub names : (k : Known) → TakesName (has_name (text k) f) f.value k before after
  pub has_regular : after.has_regular ≡ (before.has_regular || not (is_pseudo f))
  pub is_out_of_order : after.is_out_of_order ≡ (before.is_out_of_order || (is_pseudo f && before.has_regular))
  pub pseudo_is_known : is_unknown_pseudo f ≡ false
  pub has_wrong_te : after.has_wrong_te ≡ (before.has_wrong_te || is_wrong_te f)
  pub has_spaced_value : after.has_spaced_value ≡ (before.has_spaced_value || has_space_around f)

-- what one name's field changes of it
pub record TakesKnown (known : Known) (its : List ℕ) (before after : Seen) : Type 0 where
  pub names : (k : Known) → TakesName (place k == place known) its k before after
  pub has_regular : after.has_regular ≡ before.has_regular
  pub is_out_of_order : after.is_out_of_order ≡ before.is_out_of_order
  pub has_wrong_te : after.has_wrong_te ≡ (before.has_wrong_te || ((8 == place known) && not (is_word (codes "trailers") its)))
  pub has_spaced_value : after.has_spaced_value ≡ before.has_spaced_value
