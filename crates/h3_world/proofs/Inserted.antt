-- Once the encoder stream is as long as it was when a section was sent, the insertions that it needs came.
use Rattle.std.proofs.Common.{◌≡◌, ℕ, ◌+◌, ◌-◌, ◌<◌, ◌≤◌, Bool, true, false, Option, Some, None, List, [], ◌∷◌, ◌++◌, length, refl, sym, ap, ◌∙◌, subst, arith, length-append, max, fold, if◌then◌else◌}
use Rattle.std.specs.Prelude.{unwrap_or, option_map, take}
use Rattle.std.specs.List.{AllByRecursion, count_by, flat_map}
use Rattle.std.proofs.lemmas.Grind.{common_steps}
use Rattle.std.proofs.lemmas.List.Sums.{sum_by-append}
use Rattle.h3_coding.specs.Encodings.{encoding}
use Rattle.h3_field.specs.Field.{Field}
use Rattle.h3_field.specs.StaticTable.{static_field, static_name}
use Rattle.h3_field.specs.Instruction.{EncoderInstruction, encoder_bytes}
use Rattle.h3_qpack.specs.EncoderHistory.{EncoderHistory, writing_on}
use Rattle.h3_qpack.specs.SectionEncoding.{Draft, add_ahead, add_field, add_literal, first_draft, guarded_fields, draft_of, found, found_name, insertion, remaining, marks_after, is_insertable, is_insertable_ahead, required_insert_count, instructions_for, sent_section, write_field, write_indexed}
use Rattle.h3_qpack.specs.Session.{Session}
use Rattle.h3_qpack.specs.Schedule.{SessionEvent, SessionStep, SessionRun, beginning}
use Rattle.h3_qpack.specs.Schedule.SessionEvent.{UseTable, Choose, KeepCanceled, Encode, CutOff, InsertionsRead, Decode, Cancel, DecoderInstructionRead}
use Rattle.h3_table.specs.Table.{newest_from, or_else}
use Rattle.h3_qpack.specs.WholeInstructions.{whole_in, insertions_in, is_insertion}
use Rattle.h3_proto.specs.declared.stream.Side.{Side}
use Rattle.h3_connection.specs.OwnIds.{other}
use Rattle.h3_world.specs.Setup.{Setup}
use Rattle.h3_world.specs.World.{World, party}
use Rattle.h3_world.specs.OwnStreams.{encoder_stream}
use Rattle.h3_world.specs.Came.{settings_came}
use Rattle.h3_world.specs.Sending.{section_count}
use Rattle.h3_world.specs.Following.{HasSession, limits_for}
use Rattle.h3_world.proofs.Grown.{SessionsAreSound, session_is_sound}
use Rattle.h3_world.proofs.InsertionsCame.{behind_opening}
use Rattle.h3_world.proofs.Wholes.{one_byte}

-- a property of what is chosen, by whether there is a choice
pub chosen : {X Y : Type 0} (P : Y → Type 0) (o : Option X) (g : X → Y) (y : Y) → ((x : X) → o ≡ Some x → P (g x)) → (o ≡ None → P y) → P (unwrap_or (option_map g o) y)
chosen P None g y some none = none refl
chosen P (Some x) g y some none = some x refl

pub either_way : {X : Type 0} (P : X → Type 0) (b : Bool) (x y : X) → P x → P y → P (if b then x else y)
either_way P true x y h k = h
either_way P false x y h k = k

abbrev pub AreInsertions : List EncoderInstruction → Type 0
AreInsertions is = count_by is_insertion is ≡ length is

joined : (is js : List EncoderInstruction) → AreInsertions is → AreInsertions js → AreInsertions (is ++ js)
joined is js h k = omega (arith, h, k, length-append is js, sum_by-append (λ i. if is_insertion i then 1 else 0) is js)

one : (i : EncoderInstruction) → is_insertion i ≡ true → AreInsertions (i ∷ [])
one i h = ap (λ b. count_of b) h
  where
    count_of : Bool → ℕ
    count_of b = 0 + (if b then 1 else 0)

inserts : (s : EncoderHistory) (d : Draft) (f : Field) → is_insertion (insertion s d f) ≡ true
inserts s d f =
    chosen (λ i. is_insertion i ≡ true) (remaining s d f _) _ _ (λ number e. refl) (λ none.
    chosen (λ i. is_insertion i ≡ true) (static_name f.name) _ _ (λ index e. refl) (λ none.
    chosen (λ i. is_insertion i ≡ true) (remaining s d f _) _ _ (λ number e. refl) (λ none. refl)))

abbrev pub InsertsOnly : Draft → Type 0
InsertsOnly d = AreInsertions d.instructions

literal_inserts : (s : EncoderHistory) (d : Draft) (f : Field) → InsertsOnly d → InsertsOnly (add_literal s d f)
literal_inserts s d f h =
    chosen InsertsOnly (static_name f.name) _ _ (λ index e. h) (λ none. chosen InsertsOnly (found_name s d f) _ _ (λ number e. h) (λ none. h))

-- what holds of a draft with the line of a field holds of it with the field, where an insertion for later sections keeps it
pub with_field : (P : Draft → Type 0) (s : EncoderHistory) (d : Draft) (f : Field) → P (write_field s d f) → ((e : Draft) → P e → P (add_ahead s e f)) → P (add_field s d f)
with_field P s d f h ahead = either_way P (is_insertable_ahead s (marks_after s d.lines) (write_field s d f) f) _ _ (ahead (write_field s d f) h) h

line_of_field_inserts : (s : EncoderHistory) (d : Draft) (f : Field) → InsertsOnly d → InsertsOnly (write_field s d f)
line_of_field_inserts s d f h =
    either_way InsertsOnly f.never_indexed (add_literal s d f) (write_indexed s d f) (literal_inserts s d f h) (
    chosen InsertsOnly (static_field f) _ _ (λ index e. h) (λ none.
    chosen InsertsOnly (found s d f) _ _ (λ number e. h) (λ none.
    either_way InsertsOnly (is_insertable s d f) _ _ (joined d.instructions (insertion s d f ∷ []) h (one (insertion s d f) (inserts s d f))) (literal_inserts s d f h))))

field_inserts : (s : EncoderHistory) (d : Draft) (f : Field) → InsertsOnly d → InsertsOnly (add_field s d f)
field_inserts s d f h = with_field InsertsOnly s d f (line_of_field_inserts s d f h) (λ e k. joined e.instructions (insertion s e f ∷ []) k (one (insertion s e f) (inserts s e f)))

fields_insert : (s : EncoderHistory) (d : Draft) (fields : List Field) → InsertsOnly d → InsertsOnly (fold (add_field s) d fields)
fields_insert s d [] h = h
fields_insert s d (f ∷ fields) h = fields_insert s (add_field s d f) fields (field_inserts s d f h)

section_inserts : (s : EncoderHistory) (fields : List Field) → AreInsertions (instructions_for s fields)
section_inserts s fields = fields_insert s (first_draft s) (guarded_fields s fields) refl

step_inserts : (s : Session) (event : SessionEvent) (new : Session) → AreInsertions s.instructions → SessionStep s event new → AreInsertions new.instructions
step_inserts s (UseTable capacity limit) new h e = subst (λ x. AreInsertions x.instructions) (sym e.2) h
step_inserts s (Choose choices) new h e = subst (λ x. AreInsertions x.instructions) (sym e) h
step_inserts s (KeepCanceled most) new h e = subst (λ x. AreInsertions x.instructions) (sym e) h
step_inserts s (Encode stream fields) new h e = subst (λ x. AreInsertions x.instructions) (sym e) (joined s.instructions (instructions_for (writing_on s.encoder stream) fields) h (section_inserts (writing_on s.encoder stream) fields))
step_inserts s (CutOff stream fields) new h e = subst (λ x. AreInsertions x.instructions) (sym e) (joined s.instructions (instructions_for (writing_on s.encoder stream) fields) h (section_inserts (writing_on s.encoder stream) fields))
step_inserts s (InsertionsRead count) new h e = subst (λ x. AreInsertions x.instructions) (sym e.2) h
step_inserts s (Decode block) new h e = subst (λ x. AreInsertions x.instructions) (sym e.3) h
step_inserts s (Cancel stream) new h e = subst (λ x. AreInsertions x.instructions) (sym e.1) h
step_inserts s (DecoderInstructionRead instruction rest) new h e = subst (λ x. AreInsertions x.instructions) (sym e.1) h

-- all instructions of a session behind the capacity are insertions
pub run_inserts : (s : Session) (events : List SessionEvent) (new : Session) → AreInsertions s.instructions → SessionRun s events new → AreInsertions new.instructions
run_inserts s [] new h r = subst (λ x. AreInsertions x.instructions) (sym r) h
run_inserts s (event ∷ events) new h r = run_inserts r.0 events new (step_inserts s event r.0 h r.1) r.2

-- the number that a search finds is that of an insertion
newest_below : (test : ℕ → Field → Bool) (first : ℕ) (fs : List Field) (n : ℕ) → newest_from test first fs ≡ Some n → n < first + length fs
newest_below test first [] n e = cc
newest_below test first (f ∷ fs) n e = split (newest_from test (first + 1) fs) (λ m is. newest_below test (first + 1) fs m is) (test first f) e
  where
    same : (x y : ℕ) → Some x ≡ Some y → x ≡ y
    same x y h = ap (λ o. unwrap_or o x) h

    split : (o : Option ℕ) → ((m : ℕ) → o ≡ Some m → m < first + 1 + length fs) → (b : Bool) → or_else o (if b then Some first else None) ≡ Some n → n < first + length (f ∷ fs)
    split (Some m) later b h = omega (arith, later m refl, same m n h)
    split None later true h = omega (arith, same first n h)
    split None later false h = cc

-- what a section under way names was inserted
abbrev pub AreMade : List Field → List ℕ → Type 0
AreMade inserted names = AllByRecursion (λ number. number ≤ length inserted) names

abbrev pub NamesMade : Draft → Type 0
NamesMade d = AreMade d.inserted d.references

names_joined : (inserted : List Field) (ns ms : List ℕ) → AreMade inserted ns → AreMade inserted ms → AreMade inserted (ns ++ ms)
names_joined inserted [] ms h k = k
names_joined inserted (n ∷ ns) ms h k = (h.0, names_joined inserted ns ms h.1 k)

names_stay : (inserted : List Field) (f : Field) (ns : List ℕ) → AreMade inserted ns → AreMade (inserted ++ f ∷ []) ns
names_stay inserted f [] h = tt
names_stay inserted f (n ∷ ns) h = (omega (arith, h.0, length-append inserted (f ∷ [])), names_stay inserted f ns h.1)

literal_names : (s : EncoderHistory) (d : Draft) (f : Field) → NamesMade d → NamesMade (add_literal s d f)
literal_names s d f h =
    chosen NamesMade (static_name f.name) _ _ (λ index e. names_joined d.inserted d.references [] h tt) (λ none.
    chosen NamesMade (found_name s d f) _ _ (λ number e. names_joined d.inserted d.references (number ∷ []) h (omega (arith, newest_below _ 1 d.inserted number e), tt))
    (λ none. names_joined d.inserted d.references [] h tt))

line_of_field_names : (s : EncoderHistory) (d : Draft) (f : Field) → NamesMade d → NamesMade (write_field s d f)
line_of_field_names s d f h =
    either_way NamesMade f.never_indexed (add_literal s d f) (write_indexed s d f) (literal_names s d f h) (
    chosen NamesMade (static_field f) _ _ (λ index e. names_joined d.inserted d.references [] h tt) (λ none.
    chosen NamesMade (found s d f) _ _ (λ number e. names_joined d.inserted d.references (number ∷ []) h (omega (arith, newest_below _ 1 d.inserted number e), tt)) (λ none.
    either_way NamesMade (is_insertable s d f) _ _
    (names_joined (d.inserted ++ f ∷ []) d.references ((length d.inserted + 1) ∷ []) (names_stay d.inserted f d.references h) (omega (arith, length-append d.inserted (f ∷ [])), tt))
    (literal_names s d f h))))

field_names : (s : EncoderHistory) (d : Draft) (f : Field) → NamesMade d → NamesMade (add_field s d f)
field_names s d f h = with_field NamesMade s d f (line_of_field_names s d f h) (λ e k. names_stay e.inserted f e.references k)

fields_name : (s : EncoderHistory) (d : Draft) (fields : List Field) → NamesMade d → NamesMade (fold (add_field s) d fields)
fields_name s d [] h = h
fields_name s d (f ∷ fields) h = fields_name s (add_field s d f) fields (field_names s d f h)

most_named : (most n : ℕ) (inserted : List Field) (names : List ℕ) → length inserted ≡ most → n ≤ most → AreMade inserted names → fold max n names ≤ most
most_named most n inserted [] is h all = h
most_named most n inserted (k ∷ ks) is h all = most_named most (max n k) inserted ks is (omega (arith, h, is, all.0)) all.1

-- what a section needs is among its draft's insertions
pub needs_made : (s : EncoderHistory) (fields : List Field) → required_insert_count (draft_of s fields) ≤ length (draft_of s fields).inserted
needs_made s fields =
    let d = draft_of s fields in
    most_named (length d.inserted) 0 d.inserted d.references refl (omega arith)
    (fields_name s (first_draft s) (guarded_fields s fields) tt)

-- what a party that has a session wrote on its encoder stream: one insertion for each entry, and the capacity
pub written_insertions : SessionsAreSound → (setup : Setup) (w : World) (side : Side) → HasSession setup w side → count_by is_insertion (party w side).own.instructions ≡ length (party w side).encoder.inserted
written_insertions law setup w side h =
    ap (count_by is_insertion) h.follows.instructions
    ∙ behind_opening h.session.encoder.most_capacity (limits_for setup side) (settings_came setup w (other side)) h.session.instructions
    ∙ run_inserts (beginning h.counts h.most 0 0) h.events h.session refl h.run
    ∙ (session_is_sound law setup w side h).read.one_each
    ∙ ap (λ x. length x.inserted) h.follows.encoder

take-all-of : {X : Type 0} (xs : List X) → take (length xs) xs ≡ xs
take-all-of [] = refl
take-all-of (x ∷ xs) = ap (λ l. x ∷ l) (take-all-of xs)

-- all instructions are whole in all of their bytes
all_insertions : (count : ℕ) (is : List EncoderInstruction) → length (flat_map encoder_bytes is) ≤ count → count_by is_insertion is ≤ insertions_in count is
all_insertions count is fits = omega (arith, ap (count_by is_insertion) (take-all is (whole_in encoder_bytes count is) (all_whole count is fits)))
  where
    take-all : (is : List EncoderInstruction) (k : ℕ) → k ≡ length is → take k is ≡ is
    take-all is k e = ap (λ n. take n is) e ∙ take-all-of is

    all_whole : (count : ℕ) (is : List EncoderInstruction) → length (flat_map encoder_bytes is) ≤ count → whole_in encoder_bytes count is ≡ length is
    all_whole count [] h = refl
    all_whole count (i ∷ is) h =
        grind (
          arith,
          common_steps,
          all_whole (count - length (encoder_bytes i)) is (omega (arith, h, length-append (encoder_bytes i) (flat_map encoder_bytes is))),
          length-append (encoder_bytes i) (flat_map encoder_bytes is),
          h,
        )

-- The field `inserted` of `IsSentSection` for a section that goes out.
pub sent_section_inserted : SessionsAreSound → (setup : Setup) (old new : World) (side : Side) (id : ℕ) (fields : List Field) → HasSession setup new side
    → (party new side).encoder ≡ sent_section (party old side).encoder id fields
    → section_count (party old side).encoder id fields ≤ insertions_in (length (encoder_stream (party new side)) - 1) (party new side).own.instructions
sent_section_inserted law setup old new side id fields later sent =
    let encoder = (party old side).encoder in
    let is = (party new side).own.instructions in
    let made = needs_made (writing_on encoder id) fields in
    let all = written_insertions law setup new side later in
    let front = all_insertions (length (encoder_stream (party new side)) - 1) is (omega (arith, one_byte, length-append (encoding 2) (flat_map encoder_bytes is))) in
    omega (arith, made, all, front, ap (λ x. length x.inserted) sent)
