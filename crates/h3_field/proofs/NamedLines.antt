-- Lines with a string for which there is no memory: what names no static entry is no field.
use Rattle.std.proofs.Common.{◌≡◌, ◌==◌, ◌/◌, ◌%◌, ℕ, ◌≤◌, Bool, true, false, List, Option, Some, None, is_some, Err, refl, sym, ◌∙◌}
use Rattle.h3_field.specs.Reading.{Reading, Whole, Unfinished, Bad, then_read}
use Rattle.h3_field.specs.IntegerReading.{integer}
use Rattle.h3_field.specs.StringReading.{Payload, string, text_of}
use Rattle.h3_field.specs.Shapes.{IndexAndString, TwoStrings, two_strings}
use Rattle.h3_field.specs.Line.FieldLine.{StaticName, Literal}
use Rattle.h3_field.specs.LineReading.{LineForm, Named, LiteralField, SaysLine, HasString, line, named, literal}
use Rattle.h3_field.specs.LineAnswer.{AnswersLine, LineTakesMemory, named_line}
use Rattle.h3_field.specs.ShapeAnswer.{Place, AtInteger, AtString, error_at}
use Rattle.h3_field.specs.Section.{line_field}
use Rattle.h3_field.specs.SectionAnswer.{HasNoField, BeginsWithLiteral, IsReason, NamesStatic, NamesNoStatic, IsNameRefusal, IsNamedRefusal}
use Rattle.h3_field.specs.SectionLaws.{whole_same, named_entry}
use Rattle.h3_field.proofs.NoLines.{refused_line}
use Rattle.h3_field.specs.ShorterLaws.{named_less, literal_less}
use Rattle.h3_field.specs.StaticTable.{NamesEntry}
use Rattle.h3_field.specs.StaticTableLaws.{static_none}
use Rattle.h3_field.specs.ValueLaws.{string_is}
use Rattle.h3_field.specs.Values.{string_of}
use Rattle.h3_field.specs.declared.prefix_int.Error as integer_error
use Rattle.h3_field.specs.declared.prefix_int.Error.TheVariants.{Overflow, UnexpectedEnd}
use Rattle.h3_field.specs.declared.parse_error.ParseError.{ParseError}
use Rattle.h3_field.specs.declared.parse_error.ParseError.TheVariants.{Integer, String, InvalidPrefix, InvalidBase, OutOfMemory}
use Rattle.h3_field.specs.declared.decoder_error.DecoderError.{DecoderError}
use Rattle.h3_field.specs.declared.decoder_error.DecoderError.TheVariants as error

some_value : (o : Option (List ℕ)) → is_some o ≡ true → (value : List ℕ) × (o ≡ Some value)
some_value None e = absurd (cc)
some_value (Some value) e = (value, refl)

-- a line with two strings is a field
pub literal_asks : (old : List ℕ) → line old ≡ literal old → (form : LineForm) (rest : List ℕ) → literal old ≡ Whole form rest → HasString form → LineTakesMemory form → BeginsWithLiteral old
literal_asks old own form rest e string memory = from (two_strings 4 old) e
  where
    with : (p q : Payload) (n : Bool) → literal old ≡ Whole (LiteralField p q n) rest → LineTakesMemory (LiteralField p q n) → BeginsWithLiteral old
    with p q n is memory =
        let name = some_value (string_of p) memory.0 in
        let value = some_value (string_of q) memory.1 in
        let here : line old ≡ Whole (LiteralField p q n) rest = own ∙ is in (
          LiteralField p q n,
          rest,
          record { name = name.0; value = value.0; never_indexed = n },
          here,
          tt,
          memory,
          record {
            line = Literal (text_of p name.0) (text_of q value.0) n;
            here = record { form = LiteralField p q n; whole = here; says = (name.0, value.0, string_is p name.0 name.1, string_is q value.0 value.1, refl) };
            names = refl;
            less = literal_less old rest (LiteralField p q n) is;
          },
        )

    from : (t : Reading TwoStrings) → then_read t (λ parts after. Whole (LiteralField parts.name parts.value (parts.flags % 2 == 1)) after) ≡ Whole form rest → BeginsWithLiteral old
    from (Whole parts after) is =
        let same = whole_same (LiteralField parts.name parts.value (parts.flags % 2 == 1)) form after rest is in
        with parts.name parts.value (parts.flags % 2 == 1) (rw (← same.0) at e) (rw (← same.0) at memory)
    from Unfinished is = absurd (cc)
    from Bad is = absurd (cc)

-- a line that names no static entry
no_named : (old after : List ℕ) (is_static : Bool) (index : ℕ) (p : Payload) (n : Bool) → line old ≡ Whole (Named is_static index p n) after → (is_static ≡ true → 99 ≤ index) → HasNoField old
no_named old after true index p n is le rest l f here names =
    let same = whole_same (Named true index p n) here.form after rest (sym is ∙ here.whole) in
    let says : SaysLine (Named true index p n) l = rw (← same.0) at here.says in
    let none : line_field l ≡ None = rw (says.2, static_none index (le refl)) refl in
    absurd (cc)
no_named old after false index p n is le rest l f here names =
    let same = whole_same (Named false index p n) here.form after rest (sym is ∙ here.whole) in
    let says : SaysLine (Named false index p n) l = rw (← same.0) at here.says in
    let none : line_field l ≡ None = rw says.2 refl in
    absurd (cc)

-- a line that names a static entry
named_asks : (old after : List ℕ) (is_static : Bool) (index : ℕ) (p : Payload) (n : Bool) (name : List ℕ) → line old ≡ named old → line old ≡ Whole (Named is_static index p n) after → is_static ≡ true → NamesEntry index name → LineTakesMemory (Named is_static index p n) → BeginsWithLiteral old
named_asks old after false index p n name own here coded entry memory = absurd (cc)
named_asks old after true index p n name own here coded entry memory =
    let value = some_value (string_of p) memory.0 in (
      Named true index p n,
      after,
      record { name = name; value = value.0; never_indexed = n },
      here,
      tt,
      memory,
      record {
        line = StaticName index (text_of p value.0) n;
        here = record { form = Named true index p n; whole = here; says = (value.0, string_is p value.0 value.1, refl) };
        names = named_entry index name value.0 n entry;
        less = named_less old after (Named true index p n) (sym own ∙ here);
      },
    )

-- a refusal with other reasons
other_reasons : (memory asks bad none : Type 0) → (memory → asks) → (bad → none) → (e : DecoderError) → IsReason memory bad (λ size. ⊥) e → IsReason asks none (λ size. ⊥) e
other_reasons memory asks bad none f g error.OutOfMemory h = f h
other_reasons memory asks bad none f g (error.HeaderTooLong size) h = absurd h
other_reasons memory asks bad none f g (error.InvalidInteger x) h = g h
other_reasons memory asks bad none f g (error.InvalidString x) h = g h
other_reasons memory asks bad none f g (error.InvalidIndex x) h = g h
other_reasons memory asks bad none f g (error.DynamicTable x) h = g h
other_reasons memory asks bad none f g (error.InvalidStaticIndex x) h = g h
other_reasons memory asks bad none f g (error.UnknownPrefix x) h = g h
other_reasons memory asks bad none f g (error.MissingRefs x) h = g h
other_reasons memory asks bad none f g error.BadBaseIndex h = g h
other_reasons memory asks bad none f g error.UnexpectedEnd h = g h
other_reasons memory asks bad none f g error.BufSize h = g h

-- what is not whole, or out of range, is no want of memory
not_memory : (place : Place) (x : integer_error.Error) → OutOfMemory ≡ error_at place x → ⊥
not_memory AtInteger x e = absurd (cc)
not_memory AtString UnexpectedEnd e = absurd (cc)
not_memory AtString Overflow e = absurd (cc)

-- the line with this integer, and this string behind it
abbrev with_string : ℕ × ℕ → Reading (ℕ × Payload) → Reading LineForm
with_string head s = then_read (then_read s (λ value after. Whole (record { flags = head.0; index = head.1; value = value.1 }) after)) (λ (parts : IndexAndString) rest. Whole (Named (parts.flags % 2 == 1) parts.index parts.value (parts.flags / 2 % 2 == 1)) rest)

abbrev behind_integer : Reading (ℕ × ℕ) → Reading LineForm
behind_integer r = then_read (then_read r (λ head rest. then_read (string 8 rest) (λ value after. Whole (record { flags = head.0; index = head.1; value = value.1 }) after))) (λ (parts : IndexAndString) rest. Whole (Named (parts.flags % 2 == 1) parts.index parts.value (parts.flags / 2 % 2 == 1)) rest)

wants_memory : (place : Place) (old new : List ℕ) (e : DecoderError) → line old ≡ named old → AnswersLine named_line place (named old) old new (Err OutOfMemory) → IsNameRefusal (integer 4 old) e → IsReason (BeginsWithLiteral old) (HasNoField old) (λ size. ⊥) e
wants_memory place old new e own h k = from (integer 4 old) own h k
  where
    told : (head : ℕ × ℕ) (s : Reading (ℕ × Payload)) → line old ≡ with_string head s → AnswersLine named_line place (with_string head s) old new (Err OutOfMemory) → IsReason (NamesStatic head) (NamesNoStatic head) (λ size. ⊥) e → IsReason (BeginsWithLiteral old) (HasNoField old) (λ size. ⊥) e
    told head (Whole value after) is h k =
        other_reasons (NamesStatic head) (BeginsWithLiteral old) (NamesNoStatic head) (HasNoField old)
        (λ n. named_asks old after (head.0 % 2 == 1) head.1 value.1 (head.0 / 2 % 2 == 1) n.1.0 own is n.0 n.1.1 h.1)
        (λ n. no_named old after (head.0 % 2 == 1) head.1 value.1 (head.0 / 2 % 2 == 1) is n) e k
    told head Unfinished is h k = absurd (not_memory place UnexpectedEnd (cc))
    told head Bad is h k = absurd (not_memory place Overflow (cc))

    from : (r : Reading (ℕ × ℕ)) → line old ≡ behind_integer r → AnswersLine named_line place (behind_integer r) old new (Err OutOfMemory) → IsNameRefusal r e → IsReason (BeginsWithLiteral old) (HasNoField old) (λ size. ⊥) e
    from (Whole head rest) is h k = told head (string 8 rest) is h k
    from Unfinished is h k = absurd (not_memory place UnexpectedEnd (cc))
    from Bad is h k = absurd (not_memory place Overflow (cc))

-- by what its reader answers
refused_as : (place : Place) (old new : List ℕ) (x : ParseError) (e : DecoderError) → line old ≡ named old → AnswersLine named_line place (named old) old new (Err x) → IsNamedRefusal (integer 4 old) x e → IsReason (BeginsWithLiteral old) (HasNoField old) (λ size. ⊥) e
refused_as place old new OutOfMemory e own h k = wants_memory place old new e own h k
refused_as place old new (Integer x) e own h k = rw k (refused_line (BeginsWithLiteral old) place named_line (named old) old new (Integer x) (λ is. absurd (cc)) own h)
refused_as place old new (String x) e own h k = rw k (refused_line (BeginsWithLiteral old) place named_line (named old) old new (String x) (λ is. absurd (cc)) own h)
refused_as place old new (InvalidPrefix x) e own h k = rw k (refused_line (BeginsWithLiteral old) place named_line (named old) old new (InvalidPrefix x) (λ is. absurd (cc)) own h)
refused_as place old new InvalidBase e own h k = rw k (refused_line (BeginsWithLiteral old) place named_line (named old) old new InvalidBase (λ is. absurd (cc)) own h)

-- a refused line is left unread
left_unread : (place : Place) (r : Reading LineForm) (old new : List ℕ) (x : ParseError) → AnswersLine named_line place r old new (Err x) → new ≡ old
left_unread place (Whole form rest) old new x h = h.2
left_unread place Unfinished old new x h = h.1
left_unread place Bad old new x h = h.1

-- a line with a name reference that was refused, and is looked at once more
pub refused_named : (place : Place) (old new : List ℕ) (x : ParseError) (e : DecoderError) → line old ≡ named old → AnswersLine named_line place (named old) old new (Err x) → IsNamedRefusal (integer 4 new) x e → IsReason (BeginsWithLiteral old) (HasNoField old) (λ size. ⊥) e
refused_named place old new x e own h k = refused_as place old new x e own h (rw (left_unread place (named old) old new x h) at k)
