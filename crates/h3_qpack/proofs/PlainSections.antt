-- A field section that names no entry in the midst of its writing.
use Rattle.std.proofs.Common.{◌≡◌, ℕ, ◌+◌, List, [], ◌∷◌, ◌++◌, length, take, flat_map, refl, ap, sym, ◌∙◌, append_assoc, append-nil}
use Rattle.std.proofs.Common.{Some}
use Rattle.std.specs.List.{AllByRecursion, slice_get}
use Rattle.std.proofs.lemmas.Option.{get_or_from_slice_get, slice_get_within}
use Rattle.std.proofs.lemmas.List.{take_more, take_at}
use Rattle.std.proofs.lemmas.List.Concat.{flat_map-append}
use Rattle.h3_field.specs.Field.{Field}
use Rattle.h3_field.specs.Secret.{guarded}
use Rattle.h3_field.specs.ReadBack.{IsFieldOfBytes}
use Rattle.h3_field.specs.Line.{line_bytes}
use Rattle.h3_field.specs.Section.{static_line, static_lines, section_bytes}
use Rattle.h3_qpack.specs.EncoderHistory.{no_choices}
use Rattle.h3_table.specs.ReleasingLaws.{All-join}
use Rattle.h3_field.specs.StaticLines.{static_line_by}
use Rattle.h3_field.specs.StaticLineLaws.{unchosen_line}
use Rattle.h3_qpack.specs.StaticSections.{chosen_line, static_section}
use Rattle.h3_qpack.specs.declared.encoder_choices.EncoderChoices.{EncoderChoices}

-- What was appended so far.
pub record Put (choices : EncoderChoices) (start items : List ℕ) (fields : List Field) (index : ℕ) : Type 0 where
  pub items_are : items ≡ start ++ static_section choices (take index fields)
  pub bytes : AllByRecursion IsFieldOfBytes (take index fields)

-- the line of one field more
next_lines : (choices : EncoderChoices) (fields : List Field) (f : Field)
    → flat_map (λ g. line_bytes (chosen_line choices g)) (fields ++ f ∷ []) ≡ flat_map (λ g. line_bytes (chosen_line choices g)) fields ++ line_bytes (chosen_line choices f)
next_lines choices fields f =
    flat_map-append (λ g. line_bytes (chosen_line choices g)) fields (f ∷ [])
    ∙ ap (λ x. flat_map (λ g. line_bytes (chosen_line choices g)) fields ++ x) (append-nil (line_bytes (chosen_line choices f)))

pub put_more : (choices : EncoderChoices) (start items new : List ℕ) (fields : List Field) (index : ℕ) (f g : Field) → Put choices start items fields index → slice_get fields index ≡ Some f → g ≡ guarded choices.guards_secrets f
    → new ≡ items ++ line_bytes (static_line_by choices.shortest_strings g) → IsFieldOfBytes f → Put choices start new fields (index + 1)
put_more choices start items new fields index f g p at taken e each =
    let front = take index fields in
    let more : take (index + 1) fields ≡ front ++ f ∷ [] = take_more fields index f (slice_get_within fields index f at) ∙ ap (λ x. front ++ x ∷ []) (get_or_from_slice_get fields index f f at) in
    let line : line_bytes (static_line_by choices.shortest_strings g) ≡ line_bytes (chosen_line choices f) = ap (λ h. line_bytes (static_line_by choices.shortest_strings h)) taken in
    record {
      items_are = e ∙ ap (λ x. items ++ x) line ∙ ap (λ x. x ++ line_bytes (chosen_line choices f)) p.items_are ∙ append_assoc start (static_section choices front) (line_bytes (chosen_line choices f))
          ∙ ap (λ x. start ++ 0 ∷ 0 ∷ x) (sym (next_lines choices front f)) ∙ ap (λ fs. start ++ static_section choices fs) (sym more);
      bytes = rw more (All-join IsFieldOfBytes front (f ∷ []) p.bytes (each, tt));
    }

pub put_refused : (choices : EncoderChoices) (start items new : List ℕ) (fields : List Field) (index : ℕ) → Put choices start items fields index → new ≡ items → take (length start) new ≡ start
put_refused choices start items new fields index p e = rw (e, p.items_are) (take_at start (static_section choices (take index fields)) (length start) refl)

-- If nothing is chosen the section is that of a writer without choices.
same_lines : (fields : List Field) → flat_map (λ f. line_bytes (chosen_line no_choices f)) fields ≡ static_lines fields
same_lines [] = refl
same_lines (f ∷ fields) =
    ap (λ l. line_bytes l ++ flat_map (λ g. line_bytes (chosen_line no_choices g)) fields) (unchosen_line f)
    ∙ ap (λ bytes. line_bytes (static_line f) ++ bytes) (same_lines fields)

pub nothing_chosen : (fields : List Field) → static_section no_choices fields ≡ section_bytes fields
nothing_chosen fields = ap (λ bytes. 0 ∷ 0 ∷ bytes) (same_lines fields)
