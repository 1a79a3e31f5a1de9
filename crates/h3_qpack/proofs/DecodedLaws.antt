-- What a decoder says of an encoded field section is its value.
use Rattle.std.proofs.Common.{◌≡◌, ◌⊎◌, inl, inr, ℕ, zero, suc, ◌+◌, ◌-◌, ◌*◌, ◌/◌, ◌%◌, ◌==◌, ◌&&◌, ◌<◌, ◌≤◌, nat_lt, nat_le, Bool, true, false, if◌then◌else◌, List, [], ◌∷◌, length, Option, Some, None, option_map, Result, Err, refl, ap, sym, ◌∙◌, subst, arith}
use Rattle.std.proofs.lemmas.Bool.{and_parts, ltb-true, lt-ltb, le-leb, lt-leb, le-ltb, leb-true, eqb-true, cases_lt}
use Rattle.std.proofs.lemmas.Grind.{common_steps}
use Rattle.std.proofs.lemmas.Nat.{mod-mul-add}
use Rattle.std.proofs.Math.Nat.{div-mul-le_self, mod-add-div', mod-lt, mod-eq_of_lt}
use Rattle.h3_field.specs.Field.{Field}
use Rattle.h3_field.specs.Line.{FieldLine}
use Rattle.h3_field.specs.LineReading.{LineForm, line}
use Rattle.h3_field.specs.Prefix.{most_entries, IsRequiredCount}
use Rattle.h3_field.specs.PrefixReading.{EncodedPrefix, prefix, IsCount, IsBase, IsPrefix}
use Rattle.h3_field.specs.Reading.{Reading, Whole, Unfinished, Bad}
use Rattle.h3_field.specs.Section.{HasLine, AreLines, NoLine, NextLine}
use Rattle.h3_table.specs.TableState.{TableState}
use Rattle.h3_qpack.specs.DecoderState.{DecoderState, count_capacity}
use Rattle.h3_qpack.specs.Meaning.{table_for, is_allowed, field_at, HaveFields, HasPrefix, MeansFields, IsMissing, IsBadSection}
use Rattle.h3_qpack.proofs.Counts.{one_residue}
use Rattle.h3_field.specs.Values.{line_of}
use Rattle.h3_qpack.specs.DecodedSection.{DecodedSection, Fields, Missing, BadSection, field_of, then_fields, fields_from, fields_within, fields_in, checked_count, near_count, count_of, with_base, count_and_base, with_fields, decoded_at, decoded_from, decode_section, IsDecodedAs, IsRefusalOf}
use Rattle.h3_field.specs.ValueLaws.{line_some, line_is}
use Rattle.h3_field.specs.ShorterLaws.{line_less}
use Rattle.h3_qpack.specs.SectionAnswers.{IsRefusal}
use Rattle.h3_field.specs.PrefixAnswer.{AnswersPrefix}
use Rattle.h3_field.specs.Errors.{decoder_parse}
use Rattle.h3_field.specs.declared.prefix_int.Error.{Error}
use Rattle.h3_field.specs.declared.prefix_int.Error.TheVariants.{Overflow, UnexpectedEnd as IntegerEnd}
use Rattle.h3_field.specs.declared.parse_error.ParseError.{ParseError}
use Rattle.h3_field.specs.declared.parse_error.ParseError.TheVariants.{Integer}
use Rattle.h3_field.specs.declared.decoder_error.DecoderError.{DecoderError}
use Rattle.h3_field.specs.declared.decoder_error.DecoderError.TheVariants.{InvalidInteger, InvalidString, InvalidIndex, DynamicTable, InvalidStaticIndex, UnknownPrefix, MissingRefs, BadBaseIndex, UnexpectedEnd, HeaderTooLong, BufSize, OutOfMemory}

some_same : {X : Type 0} (x y : X) → Some x ≡ Some y → x ≡ y
some_same x y e = cc

-- lines and their fields
pub fields_some : (most : ℕ) (h : TableState) (base : ℕ) (bytes : List ℕ) (lines : List FieldLine) (fields : List Field) → AreLines bytes lines → HaveFields h base lines fields → length bytes ≤ most → fields_within most h base bytes ≡ Some fields
fields_some most h base bytes [] [] NoLine named fits = refl
fields_some most h base bytes [] (f ∷ fields) NoLine named fits = absurd named
fields_some most h base bytes (l ∷ lines) [] split named fits = absurd named
fields_some most h base [] (l ∷ lines) (f ∷ fields) (NextLine b rest k ks here others) named fits = let e = here.whole in absurd (cc)
fields_some zero h base (byte ∷ bytes) (l ∷ lines) (f ∷ fields) (NextLine b rest k ks here others) named fits = absurd (omega (arith, fits))
fields_some (suc most) h base (byte ∷ bytes) (l ∷ lines) (f ∷ fields) (NextLine b rest k ks here others) named fits =
    let less = line_less (byte ∷ bytes) rest here.form here.whole in
    let next = fields_some most h base rest lines fields others named.1 (omega (arith, less, fits)) in
    ap (λ x. fields_from (fields_within most h base) h base x) here.whole
    ∙ ap (λ o. then_fields (field_of h base o) (fields_within most h base rest)) (line_some here.form l here.says)
    ∙ ap (λ o. then_fields o (fields_within most h base rest)) named.0
    ∙ ap (λ o. option_map (λ fs. f ∷ fs) o) next

-- the lines of some fields
pub record LinesOf (h : TableState) (base : ℕ) (bytes : List ℕ) (fields : List Field) : Type 0 where
  pub lines : List FieldLine
  pub split : AreLines bytes lines
  pub named : HaveFields h base lines fields

pushed : (o : Option (List Field)) (f : Field) (fields : List Field) → option_map (λ fs. f ∷ fs) o ≡ Some fields → (others : List Field) × (o ≡ Some others) × (fields ≡ f ∷ others)
pushed None f fields e = absurd (cc)
pushed (Some others) f fields e = (others, refl, sym (some_same (f ∷ others) fields e))

taken : (o : Option Field) (go : Option (List Field)) (fields : List Field) → then_fields o go ≡ Some fields → (f : Field) × (others : List Field) × (o ≡ Some f) × (go ≡ Some others) × (fields ≡ f ∷ others)
taken None go fields e = absurd (cc)
taken (Some f) go fields e = let p = pushed go f fields e in (f, p.0, refl, p.1, p.2)

named_line : (h : TableState) (base : ℕ) (o : Option FieldLine) (f : Field) → field_of h base o ≡ Some f → (l : FieldLine) × (o ≡ Some l) × (field_at h base l ≡ Some f)
named_line h base None f e = absurd (cc)
named_line h base (Some l) f e = (l, refl, e)

lines_from : (h : TableState) (base : ℕ) (bytes : List ℕ) (fields : List Field) (go : List ℕ → Option (List Field)) (r : Reading LineForm) → ((rest : List ℕ) (others : List Field) → go rest ≡ Some others → LinesOf h base rest others)
    → line bytes ≡ r → fields_from go h base r ≡ Some fields → LinesOf h base bytes fields
lines_from h base bytes fields go (Whole form rest) each here e =
    let t = taken (field_of h base (line_of form)) (go rest) fields e in
    let n = named_line h base (line_of form) t.0 t.2 in
    let others = each rest t.1 t.3 in
    let has : HasLine bytes n.0 rest = record { form = form; whole = here; says = line_is form n.0 n.1 } in
    let all : LinesOf h base bytes (t.0 ∷ t.1) = record { lines = n.0 ∷ others.lines; split = NextLine bytes rest n.0 others.lines has others.split; named = (n.2, others.named) } in
    subst (LinesOf h base bytes) (sym t.4) all
lines_from h base bytes fields go Unfinished each here e = absurd (cc)
lines_from h base bytes fields go Bad each here e = absurd (cc)

pub fields_are : (most : ℕ) (h : TableState) (base : ℕ) (bytes : List ℕ) (fields : List Field) → fields_within most h base bytes ≡ Some fields → LinesOf h base bytes fields
fields_are most h base [] fields e = subst (LinesOf h base []) (some_same [] fields e) (record { lines = []; split = NoLine; named = tt })
fields_are zero h base (byte ∷ bytes) fields e = absurd (cc)
fields_are (suc most) h base (byte ∷ bytes) fields e =
    lines_from h base (byte ∷ bytes) fields (fields_within most h base) (line (byte ∷ bytes)) (λ rest others. fields_are most h base rest others) refl e

-- the required insert count
at_least : (q full s newest count : ℕ) → 0 < full → newest < q * full + s → newest < q * full + full → count % full ≡ s → count ≤ newest → 0 < q
at_least zero full s newest count pos past top residue new =
    let small : count < full = omega (arith, top, new) in
    let same : count % full ≡ count = mod-eq_of_lt small in
    absurd (omega (arith, past, new, same, residue))
at_least (suc q) full s newest count pos past top residue new = omega arith

one_back : (q full s : ℕ) → 0 < q → s < full → (q * full + s - full) % full ≡ s
one_back zero full s pos low = absurd (omega arith)
one_back (suc q) full s pos low =
    let e : suc q * full + s - full ≡ q * full + s = omega arith in
    rw e (mod-mul-add q full s low)

back_far : (q full s : ℕ) → 0 < q → full ≤ q * full
back_far zero full s pos = absurd (omega arith)
back_far (suc q) full s pos = omega arith

near_is : (m newest encoded count : ℕ) → 0 < m → count % (2 * m) + 1 ≡ encoded → newest < count + 2 * m → count ≤ newest → near_count m newest encoded ≡ count
near_is m newest encoded count pos residue old new =
    let full = 2 * m in
    let q = newest / full in
    let s = encoded - 1 in
    let low : q * full ≤ newest = div-mul-le_self newest full in
    let parts : newest % full + newest / full * full ≡ newest = mod-add-div' newest full in
    let rest : newest % full < full = mod-lt newest (omega (arith, pos)) in
    let s_is : count % full ≡ s = omega (arith, residue) in
    let s_small : s < full = subst (λ x. x < full) s_is (mod-lt count (omega (arith, pos))) in
    elim (cases_lt newest (q * full + s)) [
      | inr within ↦
          ap (λ b. if b then q * full + s else q * full + s - full) (le-leb (q * full + s) newest within)
          ∙ one_residue full (q * full + s) count (omega (arith, pos)) (mod-mul-add q full s s_small ∙ sym s_is)
          (omega (arith, within, old)) (omega (arith, new, parts, rest))
      | inl past ↦
          let some : 0 < q = at_least q full s newest count (omega (arith, pos)) past (omega (arith, parts, rest)) s_is new in
          let far : full ≤ q * full = back_far q full s some in
          ap (λ b. if b then q * full + s else q * full + s - full) (lt-leb (q * full + s) newest past)
          ∙ one_residue full (q * full + s - full) count (omega (arith, pos)) (one_back q full s some s_small ∙ sym s_is)
          (omega (arith, low, old, s_small, far)) (omega (arith, new, past, far))
    ]

-- the tests of a count
abbrev tests : ℕ → ℕ → ℕ → ℕ → Bool
tests most inserted encoded count = nat_lt 0 count && (count % (2 * most) + 1 == encoded) && nat_lt inserted (count + most) && nat_le count (inserted + most)

same_number : (n : ℕ) → (n == n) ≡ true
same_number n = grind (arith, common_steps)

tests_pass : (capacity inserted encoded count : ℕ) → IsRequiredCount capacity inserted encoded count → tests (most_entries capacity) inserted encoded count ≡ true
tests_pass capacity inserted encoded count h =
    rw (lt-ltb 0 count h.positive, h.residue, same_number encoded, lt-ltb inserted (count + most_entries capacity) h.not_too_old, le-leb count (inserted + most_entries capacity) h.not_too_new) refl

is_not_zero : (n : ℕ) → 0 < n → (n == 0) ≡ false
is_not_zero n h = grind (arith, common_steps, h)

not_zero : {X : Type 0} (n : ℕ) (x y : X) → 0 < n → (if n == 0 then x else y) ≡ y
not_zero n x y h = ap (λ b. if b then x else y) (is_not_zero n h)

pub count_some : (capacity inserted encoded count : ℕ) → IsRequiredCount capacity inserted encoded count → count_of capacity inserted encoded ≡ Some count
count_some capacity inserted encoded count h =
    let m = most_entries capacity in
    let near = near_is m (inserted + m) encoded count (omega (arith, h.not_too_old, h.not_too_new)) h.residue (omega (arith, h.not_too_old)) h.not_too_new in
    not_zero encoded (Some 0) (checked_count m inserted encoded (near_count m (inserted + m) encoded)) (omega (arith, h.residue))
    ∙ ap (λ n. checked_count m inserted encoded n) near
    ∙ ap (λ b. if b then Some count else None) (tests_pass capacity inserted encoded count h)

checked_is : (b : Bool) (n count : ℕ) → (if b then Some n else None) ≡ Some count → (b ≡ true) × (n ≡ count)
checked_is true n count e = (refl, some_same n count e)
checked_is false n count e = absurd (cc)

passed : (capacity inserted encoded count : ℕ) → tests (most_entries capacity) inserted encoded count ≡ true → IsRequiredCount capacity inserted encoded count
passed capacity inserted encoded count t =
    let m = most_entries capacity in
    let c = and_parts (nat_lt 0 count && (count % (2 * m) + 1 == encoded) && nat_lt inserted (count + m)) (nat_le count (inserted + m)) t in
    let b = and_parts (nat_lt 0 count && (count % (2 * m) + 1 == encoded)) (nat_lt inserted (count + m)) c.0 in
    let a = and_parts (nat_lt 0 count) (count % (2 * m) + 1 == encoded) b.0 in
    record {
      positive = ltb-true 0 count a.0;
      residue = eqb-true _ _ a.1;
      not_too_old = ltb-true _ _ b.1;
      not_too_new = leb-true _ _ c.1;
    }

zero_or_more : (n : ℕ) → (n ≡ 0) ⊎ (0 < n)
zero_or_more zero = inl refl
zero_or_more (suc n) = inr (omega arith)

pub count_is : (capacity inserted encoded count : ℕ) → count_of capacity inserted encoded ≡ Some count → IsCount capacity inserted encoded count
count_is capacity inserted encoded count e = elim (zero_or_more encoded) [
  | inl none ↦ inl (none, let z : Some 0 ≡ Some count = rw none at e in sym (some_same 0 count z))
  | inr some ↦
      let m = most_entries capacity in
      let near = near_count m (inserted + m) encoded in
      let checked : checked_count m inserted encoded near ≡ Some count = sym (not_zero encoded (Some 0) (checked_count m inserted encoded near) some) ∙ e in
      let c = checked_is (tests m inserted encoded near) near count checked in
      inr (some, passed capacity inserted encoded count (subst (λ k. tests m inserted encoded k ≡ true) c.1 c.0))
]

counted : (capacity inserted encoded count : ℕ) → IsCount capacity inserted encoded count → count_of capacity inserted encoded ≡ Some count
counted capacity inserted encoded count (inl h) = rw (h.0, h.1) refl
counted capacity inserted encoded count (inr h) = count_some capacity inserted encoded count h.1

based : (below : Bool) (delta count base : ℕ) → IsBase below delta count base → with_base below delta (Some count) ≡ Some (count, base)
based true delta count base h =
    ap (λ b. if b then Some (count, count - delta - 1) else None) (lt-ltb delta count (omega (arith, h)))
    ∙ ap (λ n. Some (count, n)) (let e : count - delta - 1 ≡ base = omega (arith, h) in e)
based false delta count base h = ap (λ n. Some (count, n)) (sym h)

abbrev first_in : Option (ℕ × ℕ) → ℕ
first_in None = 0
first_in (Some p) = p.0

abbrev second_in : Option (ℕ × ℕ) → ℕ
second_in None = 0
second_in (Some p) = p.1

pair_same : (a b c d : ℕ) (o : Option (ℕ × ℕ)) → o ≡ Some (a, b) → o ≡ Some (c, d) → (a ≡ c) × (b ≡ d)
pair_same a b c d o e f = (ap first_in (sym e ∙ f), ap second_in (sym e ∙ f))

nothing_there : (o : Option (ℕ × ℕ)) (a b : ℕ) → o ≡ None → o ≡ Some (a, b) → ⊥
nothing_there None a b e f = absurd (cc)
nothing_there (Some p) a b e f = absurd (cc)

unbased : (below : Bool) (delta : ℕ) (o : Option ℕ) (count base : ℕ) → with_base below delta o ≡ Some (count, base) → (o ≡ Some count) × IsBase below delta count base
unbased below delta None count base e = absurd (cc)
unbased true delta (Some n) count base e = elim (cases_lt delta n) [
  | inl less ↦
      let p = pair_same n (n - delta - 1) count base (with_base true delta (Some n)) (ap (λ b. if b then Some (n, n - delta - 1) else None) (lt-ltb delta n less)) e in
      (ap Some p.0, omega (arith, less, p.0, p.1))
  | inr more ↦ absurd (nothing_there (with_base true delta (Some n)) count base (ap (λ b. if b then Some (n, n - delta - 1) else None) (le-ltb delta n more)) e)
]
unbased false delta (Some n) count base e = let p = pair_same n (n + delta) count base (Some (n, n + delta)) refl e in (ap Some p.0, omega (arith, p.0, p.1))

zero_is : (capacity : ℕ) (x y : Option (ℕ × ℕ)) → capacity ≡ 0 → (if capacity == 0 then x else y) ≡ x
zero_is capacity x y e = rw e refl

pub prefix_some : (capacity inserted : ℕ) (p : EncodedPrefix) (count base : ℕ) → IsPrefix capacity inserted p count base → count_and_base capacity inserted p ≡ Some (count, base)
prefix_some capacity inserted p count base (inl h) = zero_is capacity _ _ h.0 ∙ ap (λ n. Some (n, 0)) (sym h.1) ∙ ap (λ n. Some (count, n)) (sym h.2)
prefix_some capacity inserted p count base (inr h) =
    not_zero capacity _ _ h.0
    ∙ ap (λ o. with_base p.is_negative p.delta o) (counted capacity inserted p.encoded count h.1)
    ∙ based p.is_negative p.delta count base h.2

pub prefix_is : (capacity inserted : ℕ) (p : EncodedPrefix) (count base : ℕ) → count_and_base capacity inserted p ≡ Some (count, base) → IsPrefix capacity inserted p count base
prefix_is capacity inserted p count base e = elim (zero_or_more capacity) [
  | inl none ↦ let q = pair_same 0 0 count base (count_and_base capacity inserted p) (zero_is capacity _ _ none) e in inl (none, sym q.0, sym q.1)
  | inr some ↦
      let u = unbased p.is_negative p.delta (count_of capacity inserted p.encoded) count base (sym (not_zero capacity (Some (0, 0)) _ some) ∙ e) in
      inr (some, count_is capacity inserted p.encoded count u.0, u.1)
]

-- whole sections
pub section_lines : (r : DecoderState) (bytes rest : List ℕ) (count base : ℕ) → HasPrefix r bytes rest count base → count ≤ r.table.inserted → decode_section r bytes ≡ with_fields count (fields_in (table_for r count) base rest)
unfolding decode_section fields_in
section_lines r bytes rest count base h received =
    ap (λ x. decoded_from r x) h.whole
    ∙ ap (λ b. if b then decoded_at r rest (count_and_base (count_capacity r) r.table.inserted h.encoded) else BadSection) h.allowed
    ∙ ap (λ o. decoded_at r rest o) (prefix_some (count_capacity r) r.table.inserted h.encoded count base h.is)
    ∙ ap (λ b. if b then Missing count else with_fields count (fields_in (table_for r count) base rest)) (le-ltb r.table.inserted count received)

pub section_fields : (r : DecoderState) (bytes : List ℕ) (count : ℕ) (fields : List Field) → MeansFields r bytes count fields → decode_section r bytes ≡ Fields fields count
unfolding decode_section fields_in
section_fields r bytes count fields h =
    section_lines r bytes h.rest count h.base h.begins h.received
    ∙ ap (λ o. with_fields count o) (fields_some (length h.rest) (table_for r count) h.base h.rest h.lines fields h.split h.named (omega arith))

pub section_missing : (r : DecoderState) (bytes : List ℕ) (count : ℕ) → IsMissing r bytes count → decode_section r bytes ≡ Missing count
unfolding decode_section
section_missing r bytes count h =
    ap (λ x. decoded_from r x) h.begins.whole
    ∙ ap (λ b. if b then decoded_at r h.rest (count_and_base (count_capacity r) r.table.inserted h.begins.encoded) else BadSection) h.begins.allowed
    ∙ ap (λ o. decoded_at r h.rest o) (prefix_some (count_capacity r) r.table.inserted h.begins.encoded count h.base h.begins.is)
    ∙ ap (λ b. if b then Missing count else with_fields count (fields_in (table_for r count) h.base h.rest)) (lt-ltb r.table.inserted count h.missing)

fields_at : (r : DecoderState) (bytes rest : List ℕ) (encoded : EncodedPrefix) (count base : ℕ) (o : Option (List Field)) (fields : List Field) → prefix bytes ≡ Whole encoded rest → is_allowed r encoded ≡ true → IsPrefix (count_capacity r) r.table.inserted encoded count base
    → count ≤ r.table.inserted → fields_in (table_for r count) base rest ≡ Some fields → MeansFields r bytes count fields
unfolding fields_in
fields_at r bytes rest encoded count base o fields whole allowed is received e =
    let l = fields_are (length rest) (table_for r count) base rest fields e in
    record { rest = rest; base = base; lines = l.lines; begins = record { encoded = encoded; whole = whole; allowed = allowed; is = is }; received = received; split = l.split; named = l.named }

missing_at : (r : DecoderState) (bytes rest : List ℕ) (encoded : EncodedPrefix) (count base : ℕ) → prefix bytes ≡ Whole encoded rest → is_allowed r encoded ≡ true → IsPrefix (count_capacity r) r.table.inserted encoded count base
    → r.table.inserted < count → IsMissing r bytes count
missing_at r bytes rest encoded count base whole allowed is missing = record { rest = rest; base = base; begins = record { encoded = encoded; whole = whole; allowed = allowed; is = is }; missing = missing }

-- a section that is bad has no other value
bad_fields : (r : DecoderState) (bytes rest : List ℕ) (encoded : EncodedPrefix) (count base : ℕ) (o : Option (List Field)) → IsBadSection r bytes → prefix bytes ≡ Whole encoded rest → is_allowed r encoded ≡ true → IsPrefix (count_capacity r) r.table.inserted encoded count base
    → count ≤ r.table.inserted → fields_in (table_for r count) base rest ≡ o → with_fields count o ≡ BadSection
bad_fields r bytes rest encoded count base None bad whole allowed is received e = refl
bad_fields r bytes rest encoded count base (Some fields) bad whole allowed is received e =
    absurd (bad.no_fields count fields (fields_at r bytes rest encoded count base (Some fields) fields whole allowed is received e))

bad_at : (r : DecoderState) (bytes rest : List ℕ) (encoded : EncodedPrefix) (o : Option (ℕ × ℕ)) → IsBadSection r bytes → prefix bytes ≡ Whole encoded rest → is_allowed r encoded ≡ true → count_and_base (count_capacity r) r.table.inserted encoded ≡ o → decoded_at r rest o ≡ BadSection
bad_at r bytes rest encoded None bad whole allowed e = refl
bad_at r bytes rest encoded (Some (count, base)) bad whole allowed e =
    let is = prefix_is (count_capacity r) r.table.inserted encoded count base e in
    elim (cases_lt r.table.inserted count) [
      | inl missing ↦ absurd (bad.none_missing count (missing_at r bytes rest encoded count base whole allowed is missing))
      | inr received ↦
          ap (λ b. if b then Missing count else with_fields count (fields_in (table_for r count) base rest)) (le-ltb r.table.inserted count received)
          ∙ bad_fields r bytes rest encoded count base (fields_in (table_for r count) base rest) bad whole allowed is received refl
    ]

bad_from : (r : DecoderState) (bytes : List ℕ) (x : Reading EncodedPrefix) → IsBadSection r bytes → prefix bytes ≡ x → decoded_from r x ≡ BadSection
bad_from r bytes (Whole encoded rest) bad e = by_test (is_allowed r encoded) refl
  where
    by_test : (b : Bool) → is_allowed r encoded ≡ b → (if b then decoded_at r rest (count_and_base (count_capacity r) r.table.inserted encoded) else BadSection) ≡ BadSection
    by_test true allowed = bad_at r bytes rest encoded (count_and_base (count_capacity r) r.table.inserted encoded) bad e allowed refl
    by_test false refused = refl
bad_from r bytes Unfinished bad e = refl
bad_from r bytes Bad bad e = refl

pub section_bad : (r : DecoderState) (bytes : List ℕ) → IsBadSection r bytes → decode_section r bytes ≡ BadSection
unfolding decode_section
section_bad r bytes bad = bad_from r bytes (prefix bytes) bad refl

pub section_refused : (r : DecoderState) (bytes : List ℕ) (e : DecoderError) → IsRefusal r bytes e → IsRefusalOf (decode_section r bytes) e
section_refused r bytes OutOfMemory h = h
section_refused r bytes (MissingRefs count) h = section_missing r bytes count h
section_refused r bytes (HeaderTooLong size) h = absurd h
section_refused r bytes (InvalidInteger e) h = section_bad r bytes h
section_refused r bytes (InvalidString e) h = section_bad r bytes h
section_refused r bytes (InvalidIndex e) h = section_bad r bytes h
section_refused r bytes (DynamicTable e) h = section_bad r bytes h
section_refused r bytes (InvalidStaticIndex e) h = section_bad r bytes h
section_refused r bytes (UnknownPrefix e) h = section_bad r bytes h
section_refused r bytes BadBaseIndex h = section_bad r bytes h
section_refused r bytes UnexpectedEnd h = section_bad r bytes h
section_refused r bytes BufSize h = section_bad r bytes h

failed : ParseError → Result EncodedPrefix ParseError
failed e = Err e

-- a section whose prefix is refused
pub prefix_refused : (r : DecoderState) (bytes new : List ℕ) (e : ParseError) → AnswersPrefix (prefix bytes) bytes new (Err e) → IsRefusalOf (decode_section r bytes) (decoder_parse e)
unfolding decode_section failed
prefix_refused r bytes new e h = from (prefix bytes) refl h
  where
    integer : (why : Error) (x : ParseError) → failed x ≡ failed (Integer why) → decoded_from r (prefix bytes) ≡ BadSection → IsRefusalOf (decoded_from r (prefix bytes)) (decoder_parse x)
    integer why x is bad = let same : x ≡ Integer why = cc in rw same bad

    from : (x : Reading EncodedPrefix) → prefix bytes ≡ x → AnswersPrefix x bytes new (Err e) → IsRefusalOf (decoded_from r (prefix bytes)) (decoder_parse e)
    from (Whole p rest) is k = absurd (cc)
    from Unfinished is k = integer IntegerEnd e k.0 (ap (decoded_from r) is)
    from Bad is k = integer Overflow e k.0 (ap (decoded_from r) is)

-- and the value says what the section is
-- a section has a value other than that of fields or missing ones only where it is bad
bad_only : (r : DecoderState) (bytes : List ℕ) → decode_section r bytes ≡ BadSection → IsBadSection r bytes
bad_only r bytes e =
    record {
      no_fields = λ count fields m. let f : BadSection ≡ Fields fields count = sym e ∙ section_fields r bytes count fields m in absurd (cc);
      none_missing = λ count m. let f : BadSection ≡ Missing count = sym e ∙ section_missing r bytes count m in absurd (cc);
    }

value_fields : (r : DecoderState) (bytes rest : List ℕ) (encoded : EncodedPrefix) (count base : ℕ) (o : Option (List Field)) → decode_section r bytes ≡ with_fields count o → prefix bytes ≡ Whole encoded rest → is_allowed r encoded ≡ true
    → IsPrefix (count_capacity r) r.table.inserted encoded count base → count ≤ r.table.inserted → fields_in (table_for r count) base rest ≡ o → IsDecodedAs r bytes (with_fields count o)
value_fields r bytes rest encoded count base None value whole allowed is received e = bad_only r bytes value
value_fields r bytes rest encoded count base (Some fields) value whole allowed is received e = fields_at r bytes rest encoded count base (Some fields) fields whole allowed is received e

value_at : (r : DecoderState) (bytes rest : List ℕ) (encoded : EncodedPrefix) (o : Option (ℕ × ℕ)) → decode_section r bytes ≡ decoded_at r rest o → prefix bytes ≡ Whole encoded rest → is_allowed r encoded ≡ true → count_and_base (count_capacity r) r.table.inserted encoded ≡ o
    → IsDecodedAs r bytes (decode_section r bytes)
value_at r bytes rest encoded None value whole allowed e = subst (IsDecodedAs r bytes) (sym value) (bad_only r bytes value)
value_at r bytes rest encoded (Some (count, base)) value whole allowed e =
    let is = prefix_is (count_capacity r) r.table.inserted encoded count base e in
    elim (cases_lt r.table.inserted count) [
      | inl missing ↦
          let m = missing_at r bytes rest encoded count base whole allowed is missing in
          subst (IsDecodedAs r bytes) (sym (section_missing r bytes count m)) m
      | inr received ↦
          let lines = section_lines r bytes rest count base (record { encoded = encoded; whole = whole; allowed = allowed; is = is }) received in
          subst (IsDecodedAs r bytes) (sym lines) (value_fields r bytes rest encoded count base (fields_in (table_for r count) base rest) lines whole allowed is received refl)
    ]

value_from : (r : DecoderState) (bytes : List ℕ) (x : Reading EncodedPrefix) → prefix bytes ≡ x → decode_section r bytes ≡ decoded_from r x → IsDecodedAs r bytes (decode_section r bytes)
value_from r bytes (Whole encoded rest) e value = by_test (is_allowed r encoded) refl value
  where
    by_test : (b : Bool) → is_allowed r encoded ≡ b → decode_section r bytes ≡ (if b then decoded_at r rest (count_and_base (count_capacity r) r.table.inserted encoded) else BadSection) → IsDecodedAs r bytes (decode_section r bytes)
    by_test true allowed value = value_at r bytes rest encoded (count_and_base (count_capacity r) r.table.inserted encoded) value e allowed refl
    by_test false refused value = subst (IsDecodedAs r bytes) (sym value) (bad_only r bytes value)
value_from r bytes Unfinished e value = subst (IsDecodedAs r bytes) (sym value) (bad_only r bytes value)
value_from r bytes Bad e value = subst (IsDecodedAs r bytes) (sym value) (bad_only r bytes value)

value_unfolds : (r : DecoderState) (bytes : List ℕ) → decode_section r bytes ≡ decoded_from r (prefix bytes)
unfolding decode_section
value_unfolds r bytes = refl

pub section_is_its_value : (r : DecoderState) (bytes : List ℕ) → IsDecodedAs r bytes (decode_section r bytes)
section_is_its_value r bytes = value_from r bytes (prefix bytes) refl (value_unfolds r bytes)

-- a section of one value is that
pub section_of_value : (r : DecoderState) (bytes : List ℕ) (d : DecodedSection) → decode_section r bytes ≡ d → IsDecodedAs r bytes d
section_of_value r bytes d e = subst (IsDecodedAs r bytes) e (section_is_its_value r bytes)

-- what is said of the section is its value
pub value_of_section : (r : DecoderState) (bytes : List ℕ) (d : DecodedSection) → IsDecodedAs r bytes d → decode_section r bytes ≡ d
value_of_section r bytes (Fields fields count) h = section_fields r bytes count fields h
value_of_section r bytes (Missing count) h = section_missing r bytes count h
value_of_section r bytes BadSection h = section_bad r bytes h

fields_among : DecodedSection → List Field
fields_among (Fields fields count) = fields
fields_among (Missing count) = []
fields_among BadSection = []

count_among : DecodedSection → ℕ
count_among (Fields fields count) = count
count_among (Missing count) = count
count_among BadSection = 0

pub one_meaning : (r : DecoderState) (bytes : List ℕ) (n m : ℕ) (fs gs : List Field) → MeansFields r bytes n fs → MeansFields r bytes m gs → (n ≡ m) × (fs ≡ gs)
unfolding fields_among count_among
one_meaning r bytes n m fs gs a b =
    let same = sym (section_fields r bytes n fs a) ∙ section_fields r bytes m gs b in
    (ap count_among same, ap fields_among same)

pub one_missing : (r : DecoderState) (bytes : List ℕ) (n m : ℕ) → IsMissing r bytes n → IsMissing r bytes m → n ≡ m
unfolding count_among
one_missing r bytes n m a b = ap count_among (sym (section_missing r bytes n a) ∙ section_missing r bytes m b)

pub not_both : (r : DecoderState) (bytes : List ℕ) (n m : ℕ) (fs : List Field) → MeansFields r bytes n fs → IsMissing r bytes m → ⊥
not_both r bytes n m fs a b = let same : Fields fs n ≡ Missing m = sym (section_fields r bytes n fs a) ∙ section_missing r bytes m b in absurd (cc)

pub refused_section : (r : DecoderState) (bytes : List ℕ) (e : DecoderError) → IsRefusalOf (decode_section r bytes) e → IsRefusal r bytes e
refused_section r bytes OutOfMemory h = h
refused_section r bytes (MissingRefs count) h = section_of_value r bytes (Missing count) h
refused_section r bytes (HeaderTooLong size) h = absurd h
refused_section r bytes (InvalidInteger e) h = bad_only r bytes h
refused_section r bytes (InvalidString e) h = bad_only r bytes h
refused_section r bytes (InvalidIndex e) h = bad_only r bytes h
refused_section r bytes (DynamicTable e) h = bad_only r bytes h
refused_section r bytes (InvalidStaticIndex e) h = bad_only r bytes h
refused_section r bytes (UnknownPrefix e) h = bad_only r bytes h
refused_section r bytes BadBaseIndex h = bad_only r bytes h
refused_section r bytes UnexpectedEnd h = bad_only r bytes h
refused_section r bytes BufSize h = bad_only r bytes h
