-- A field section field by field: what stays as it is written, and what a loop over its fields keeps.
use Rattle.std.proofs.Common.{◌≡◌, ℕ, ◌+◌, ◌<◌, ◌≤◌, Bool, List, [], ◌∷◌, ◌++◌, length, take, drop, get_or, sym, ◌∙◌, ap, subst, arith, length-append, Result, Ok, Err}
use Rattle.std.proofs.Common.{Some}
use Rattle.std.specs.List.{AllByRecursion, slice_get}
use Rattle.std.proofs.lemmas.Option.{get_or_from_slice_get, slice_get_within}
use Rattle.std.specs.Result.{OnOk, OnErr}
use Rattle.std.proofs.lemmas.List.{take_more, take_all, take-append-drop}
use Rattle.std.proofs.lemmas.List.Sums.{fold_push, sum_by-append, sum_by-cons}
use Rattle.h3_field.specs.Field.{Field, field_size, section_size}
use Rattle.h3_field.specs.ReadBack.{IsFieldOfBytes}
use Rattle.h3_field.specs.Secret.{guarded}
use Rattle.h3_table.specs.TableState.{TableState, evicted}
use Rattle.h3_qpack.specs.EncoderHistory.{EncoderHistory}
use Rattle.h3_qpack.specs.EncoderState.{EncoderState}
use Rattle.h3_qpack.specs.SectionEncoding.{Draft, add_field, first_draft, draft_as_given, guarded_fields, draft_of}
use Rattle.h3_qpack.specs.Drafting.{IsDrafted, IsOver, IsPossible, IsCutOff, section_after, encoder_state_with, naming}
use Rattle.h3_qpack.specs.declared.section.Section.{Section}
use Rattle.h3_qpack.specs.declared.section.Choice.{Choice}
use Rattle.h3_qpack.specs.declared.section.Choice.TheVariants as choice
use Rattle.h3_field.specs.SecretLaws.{guarded_size}
use Rattle.h3_qpack.specs.GuardLaws.{guarded_more}
use Rattle.h3_table.specs.EvictionLaws.{evicted_with_entry}
use Rattle.h3_table.specs.ReleasingLaws.{All-join}

-- what is appended or left grows
pub grown : {T E : Type 0} (P : Type 0) (r : Result T E) (old new more : List ℕ) → OnOk r (new ≡ old ++ more) → OnErr r (P × (new ≡ old)) → length old ≤ length new
grown P (Ok x) old new more p q = omega (arith, ap length p, length-append old more)
grown P (Err e) old new more p q = omega (arith, ap length q.1)

-- an entry that is there is named
naming_over : (h : TableState) (section : Section) (number : ℕ) → IsOver h section → evicted h < number → number ≤ h.inserted → IsOver h (naming section number)
naming_over h section number o low high =
    record { base = o.base; above = omega (arith, o.above, low); named = λ _. omega (arith, high); newest = omega (arith, o.newest, high) }

chosen_over : (t : EncoderState) (section : Section) (f : Field) (c : Choice) → IsOver t.table section → IsPossible t section f c → IsOver (encoder_state_with t f c).table (section_after t section c)
chosen_over t section f (choice.Static index) o p = o
chosen_over t section f (choice.Entry number) o p = naming_over t.table section number o p.0 (omega (arith, p.1, o.base))
chosen_over t section f (choice.Insertion after searched) o p =
    let here = evicted_with_entry t.table f p.0.fits in
    record {
      base = omega (arith, o.base);
      above = omega (arith, p.0.own, here);
      named = λ _. omega arith;
      newest = omega (arith, o.newest);
    }
chosen_over t section f (choice.StaticName index) o p = o
chosen_over t section f (choice.EntryName number) o p = naming_over t.table section number o p.0 p.1
chosen_over t section f choice.Literal o p = o

pub over_after : (t : EncoderState) (section : Section) (f : Field) (c : Choice) (new : EncoderState) (next : Section) → IsOver t.table section → IsPossible t section f c
    → new ≡ encoder_state_with t f c → next ≡ section_after t section c → IsOver new.table next
over_after t section f c new next o p table named = rw (table, named) (chosen_over t section f c o p)

-- What a loop over the fields keeps.
pub record InFields (t : EncoderState) (section : Section) (lines instruction_bytes : List ℕ) (new : EncoderState) (next : Section) (more later : List ℕ) (fields : List Field) (index : ℕ) : Type 0 where
  pub over : IsOver new.table next
  pub grown : length instruction_bytes ≤ length later
  pub are_bytes : AllByRecursion IsFieldOfBytes (take index fields)
  pub drafted : (s : EncoderHistory) (start : List ℕ) → IsDrafted s (draft_of s []) t section lines start instruction_bytes → IsDrafted s (draft_of s (take index fields)) new next more start later

pub draft_more : (s : EncoderHistory) (fields : List Field) (index : ℕ) (f : Field) → index < length fields → f ≡ get_or fields index f → draft_of s (take (index + 1) fields) ≡ add_field s (draft_of s (take index fields)) (guarded s.choices.guards_secrets f)
draft_more s fields index f lt is =
    ap (draft_of s) (take_more fields index f lt ∙ ap (λ x. take index fields ++ x ∷ []) (sym is))
    ∙ ap (draft_as_given s) (guarded_more s.choices.guards_secrets (take index fields) f)
    ∙ fold_push (add_field s) (first_draft s) (guarded_fields s (take index fields)) (guarded s.choices.guards_secrets f)

pub in_more : (t : EncoderState) (section : Section) (lines instruction_bytes : List ℕ) (mid : EncoderState) (between : Section) (m l : List ℕ) (new : EncoderState) (next : Section) (more later : List ℕ) (fields : List Field) (index : ℕ) (guards : Bool) (f g : Field)
    → InFields t section lines instruction_bytes mid between m l fields index → index < length fields → f ≡ get_or fields index f → IsFieldOfBytes f → guards ≡ t.choices.guards_secrets → g ≡ guarded guards f
    → IsOver new.table next → length l ≤ length later → ((s : EncoderHistory) (d : Draft) (start : List ℕ) → IsDrafted s d mid between m start l → IsDrafted s (add_field s d g) new next more start later)
    → InFields t section lines instruction_bytes new next more later fields (index + 1)
in_more t section lines instruction_bytes mid between m l new next more later fields index guards f g i lt is each guards_are taken over longer step =
    record {
      over = over;
      grown = omega (arith, i.grown, longer);
      are_bytes = subst (AllByRecursion IsFieldOfBytes) (sym (take_more fields index f lt ∙ ap (λ x. take index fields ++ x ∷ []) (sym is))) (All-join IsFieldOfBytes (take index fields) (f ∷ []) i.are_bytes (each, tt));
      drafted = λ s start h.
          let same : g ≡ guarded s.choices.guards_secrets f = taken ∙ ap (λ b. guarded b f) (guards_are ∙ ap (λ (u : EncoderState). u.choices.guards_secrets) h.state.stores) in
          subst (λ d. IsDrafted s d new next more start later) (sym (draft_more s fields index f lt is))
          (subst (λ k. IsDrafted s (add_field s (draft_of s (take index fields)) k) new next more start later) same (step s (draft_of s (take index fields)) start (i.drafted s start h)));
    }

-- the same of a field that was looked up by its place
pub lent_more : (t : EncoderState) (section : Section) (lines instruction_bytes : List ℕ) (mid : EncoderState) (between : Section) (m l : List ℕ) (new : EncoderState) (next : Section) (more later : List ℕ) (fields : List Field) (index : ℕ) (guards : Bool) (f g : Field)
    → InFields t section lines instruction_bytes mid between m l fields index → slice_get fields index ≡ Some f → IsFieldOfBytes f → guards ≡ t.choices.guards_secrets → g ≡ guarded guards f
    → IsOver new.table next → length l ≤ length later → ((s : EncoderHistory) (d : Draft) (start : List ℕ) → IsDrafted s d mid between m start l → IsDrafted s (add_field s d g) new next more start later)
    → InFields t section lines instruction_bytes new next more later fields (index + 1)
lent_more t section lines instruction_bytes mid between m l new next more later fields index guards f g i at each guards_are taken over longer step =
    in_more t section lines instruction_bytes mid between m l new next more later fields index guards f g i (slice_get_within fields index f at) (sym (get_or_from_slice_get fields index f f at)) each guards_are taken over longer step

-- a field is within the sum
lent_within : (fields : List Field) (i : ℕ) (f : Field) (most : ℕ) → slice_get fields i ≡ Some f → section_size fields < most → field_size f < most
lent_within fields i f most at below =
    let whole = sum_by-append field_size (take i fields) (drop i fields) in
    let parts : section_size fields ≡ section_size (take i fields) + section_size (drop i fields) = sym (ap (λ x. section_size x) (take-append-drop i fields)) ∙ whole in
    let more : take (i + 1) fields ≡ take i fields ++ f ∷ [] = take_more fields i f (slice_get_within fields i f at) ∙ ap (λ x. take i fields ++ x ∷ []) (get_or_from_slice_get fields i f f at) in
    let sum = ap (λ x. section_size x) more ∙ sum_by-append field_size (take i fields) (f ∷ []) in
    let rest : section_size fields ≡ section_size (take (i + 1) fields) + section_size (drop (i + 1) fields) = sym (ap (λ x. section_size x) (take-append-drop (i + 1) fields)) ∙ sum_by-append field_size (take (i + 1) fields) (drop (i + 1) fields) in
    omega (arith, sum, rest, sum_by-cons field_size f [], below)

-- and so is one that is guarded
pub guarded_within : (fields : List Field) (i : ℕ) (guards : Bool) (f g : Field) (most : ℕ) → slice_get fields i ≡ Some f → g ≡ guarded guards f → section_size fields < most → field_size g < most
guarded_within fields i guards f g most at taken below = subst (λ n. n < most) (sym (ap field_size taken ∙ guarded_size guards f)) (lent_within fields i f most at below)

pub in_all : (t : EncoderState) (section : Section) (lines instruction_bytes : List ℕ) (new : EncoderState) (next : Section) (more later : List ℕ) (fields : List Field) (index : ℕ)
    → InFields t section lines instruction_bytes new next more later fields index → length fields ≤ index
    → (s : EncoderHistory) (start : List ℕ) → IsDrafted s (draft_of s []) t section lines start instruction_bytes → IsDrafted s (draft_of s fields) new next more start later
in_all t section lines instruction_bytes new next more later fields index i all s start h =
    subst (λ fs. IsDrafted s (draft_of s fs) new next more start later) (take_all index fields all) (i.drafted s start h)

pub all_bytes : (t : EncoderState) (section : Section) (lines instruction_bytes : List ℕ) (new : EncoderState) (next : Section) (more later : List ℕ) (fields : List Field) (index : ℕ)
    → InFields t section lines instruction_bytes new next more later fields index → length fields ≤ index → AllByRecursion IsFieldOfBytes fields
all_bytes t section lines instruction_bytes new next more later fields index i all = subst (AllByRecursion IsFieldOfBytes) (take_all index fields all) i.are_bytes

-- a refused field leaves the section cut off behind the fields before it
pub in_cut_off : (t : EncoderState) (section : Section) (lines instruction_bytes : List ℕ) (new : EncoderState) (next : Section) (more later : List ℕ) (fields : List Field) (index : ℕ)
    → InFields t section lines instruction_bytes new next more later fields index → index ≤ length fields
    → (s : EncoderHistory) (start : List ℕ) → IsDrafted s (draft_of s []) t section lines start instruction_bytes → IsCutOff s s fields new start later
in_cut_off t section lines instruction_bytes new next more later fields index i le s start h =
    let d = i.drafted s start h in
    record { front = index; within = le; are_bytes = i.are_bytes; stores = d.state.stores; instructions_are = d.instructions_are }

pub in_refused : (t : EncoderState) (section : Section) (lines instruction_bytes : List ℕ) (mid : EncoderState) (between : Section) (m l : List ℕ) (new : EncoderState) (later : List ℕ) (fields : List Field) (index : ℕ)
    → InFields t section lines instruction_bytes mid between m l fields index → index ≤ length fields → new ≡ mid → later ≡ l
    → (s : EncoderHistory) (start : List ℕ) → IsDrafted s (draft_of s []) t section lines start instruction_bytes → IsCutOff s s fields new start later
in_refused t section lines instruction_bytes mid between m l new later fields index i le same unwritten s start h =
    rw (same, unwritten) (in_cut_off t section lines instruction_bytes mid between m l fields index i le s start h)
