use Rattle.std.proofs.Common.{◌≡◌, ◌<◌, ◌≤◌, ◌+◌, ◌-◌, ℕ, Bool, false, List, length, slice_get, get_or, Some, sym, ◌∙◌, ap, refl, arith}
use Rattle.std.proofs.lemmas.Option.{slice_get_read}
use Rattle.std.proofs.lemmas.Grind.{common_steps}
use Rattle.h3_field.specs.Field.{Field}
use Rattle.h3_table.specs.TableState.{TableState, evicted, in_range}
use Rattle.h3_table.specs.Matches.{matches}
use Rattle.h3_table.specs.declared.entries.Match.{Match}
use Rattle.h3_table.specs.Slots.{slot_of}
use Rattle.h3_table.proofs.Searches.{stands_first, stands_next, is_found, is_nowhere}
use Rattle.h3_table.proofs.entries.Entries.newest.Goals as goal
use Rattle.h3_table.proofs.entries.Entries.newest.Goals.{else-number-most-via-then-number-most+else-is_met, else-number-most-via-else-number-most}

-- the place of the number's entry
pub record IsPlace (h : TableState) (number place : ℕ) : Type 0 where
  pub at : number ≡ evicted h + 1 + place
  pub inside : place < length h.entries

place_is : (h : TableState) (capacity inserted len above number : ℕ) (items : List Field) → record { capacity = capacity; entries = items; inserted = inserted } ≡ h → len ≡ length items
    → evicted h ≤ above → above < number → number < evicted h + 1 + length h.entries → IsPlace h number (number - (inserted - len) - 1)
place_is h capacity inserted len above number items is len_is low more below =
    let evicted_is : inserted - len ≡ evicted h = ap (λ n. inserted - n) len_is ∙ ap (λ (k : TableState). k.inserted - length k.entries) is in
    record { at = omega (arith, evicted_is, low, more); inside = omega (arith, evicted_is, low, more, below) }

entry_is : (h : TableState) (capacity inserted place : ℕ) (items fields : List Field) (e : Field) → record { capacity = capacity; entries = items; inserted = inserted } ≡ h → fields ≡ items → place < length h.entries
    → e ≡ get_or fields place e → slice_get h.entries place ≡ Some e
entry_is h capacity inserted place items fields e is same inside read =
    slice_get_read h.entries (length h.entries) place e refl inside (read ∙ ap (λ fs. get_or fs place e) same ∙ ap (λ (k : TableState). get_or k.entries place e) is)

outside : (test : Field → Bool) (above most number : ℕ) (e : Field) → most < number → in_range test above most number e ≡ false
outside test above most number e far = grind (arith, common_steps, far)

unmet : (test : Field → Bool) (above most number : ℕ) (e : Field) → test e ≡ false → in_range test above most number e ≡ false
unmet test above most number e fails = grind (arith, common_steps, fails)

-- what was told of a name, a value and a flag, of the field that they are of
told_of : (what : Match) (f e : Field) (name value : List ℕ) (flag told is_met : Bool) → name ≡ f.name → value ≡ f.value → flag ≡ f.never_indexed → told ≡ matches what (record { name = name; value = value; never_indexed = flag }) e → told ≡ is_met → matches what f e ≡ is_met
told_of what f e name value flag told is_met name_is value_is flag_is told_is known =
    let field_is : f ≡ record { name = name; value = value; never_indexed = flag } = λ i. record { name = sym name_is i; value = sym value_is i; never_indexed = sym flag_is i } in
    ap (λ g. matches what g e) field_is ∙ sym told_is ∙ known

pub loop-number-init : goal.loop-number-init
loop-number-init c =
    let slot = c.slot.ensures.value in
    rw (c.newest-number.ensures, slot) (stands_first c.args.self.now c.args.index.now c.args.what c.args.field.now c.args.above c.args.most c.requires.indexed (rw slot at c.slot.ensures.below))

pub returns-then-is_met-clause-value : goal.returns-then-is_met-clause-value
returns-then-is_met-clause-value c =
    let i = c.loop-number.invariant in
    let p = place_is c.args.self.now c.self.inside.capacity c.self.inside.inserted c.len.result c.args.above c.loop-number.number c.self.inside.fields.fields c.self.view_is c.len.ensures c.requires.above c.loop-number-test.true i.below in
    let e = entry_is c.args.self.now c.self.inside.capacity c.self.inside.inserted _ c.self.inside.fields.fields _ c.in_ok-entry.entry c.self.view_is c.slices-fields.ensures p.inside c.in_ok-entry.ensures.lookup in
    sym (is_found c.args.self.now c.args.what c.args.field.now c.args.above c.args.most c.loop-number.number _ c.in_ok-entry.entry i p.at e c.loop-number-test.true c.if-number-most.true (told_of c.args.what c.args.field.now c.in_ok-entry.entry _ _ _ _ _ c.name-name.ensures c.value-value.ensures c.is_never_indexed-never_indexed.ensures c.is_met.ensures c.if-is_met.true))

pub loop-number-smaller : goal.loop-number-smaller
loop-number-smaller c =
    let i = c.loop-number.invariant in
    let p = place_is c.args.self.now c.self.inside.capacity c.self.inside.inserted c.len.result c.args.above c.loop-number.number c.self.inside.fields.fields c.self.view_is c.len.ensures c.requires.above c.loop-number-test.true i.below in
    let n = c.requires.indexed.links _ (slot_of c.args.what c.args.field.now) (i.here _ p.at) in
    let older_is = ap (λ links. get_or links (c.loop-number.number - (c.self.inside.inserted - c.len.result) - 1) 0) c.links-links.ensures in
    omega (arith, c.older-number.ensures, older_is, n.below, p.at)

pub loop-number-preserved : goal.loop-number-preserved
loop-number-preserved c =
    let i = c.loop-number.invariant in
    let p = place_is c.args.self.now c.self.inside.capacity c.self.inside.inserted c.len.result c.args.above c.loop-number.number c.self.inside.fields.fields c.self.view_is c.len.ensures c.requires.above c.loop-number-test.true i.below in
    let e = entry_is c.args.self.now c.self.inside.capacity c.self.inside.inserted _ c.self.inside.fields.fields _ c.in_ok-entry.entry c.self.view_is c.slices-fields.ensures p.inside c.in_ok-entry.ensures.lookup in
    let test = matches c.args.what c.args.field.now in
    let fails : in_range test c.args.above c.args.most c.loop-number.number c.in_ok-entry.entry ≡ false =
    elim c.else-number-most.branch [
      | else-number-most-via-then-number-most+else-is_met w ↦ unmet test c.args.above c.args.most c.loop-number.number c.in_ok-entry.entry (told_of c.args.what c.args.field.now c.in_ok-entry.entry _ _ _ _ _ c.name-name.ensures c.value-value.ensures c.is_never_indexed-never_indexed.ensures w.is_met.ensures w.if-is_met.false)
      | else-number-most-via-else-number-most w ↦ outside test c.args.above c.args.most c.loop-number.number c.in_ok-entry.entry w.if-number-most.false
    ] in
    rw (c.older-number.ensures, c.links-links.ensures) (stands_next c.args.self.now c.args.index.now c.args.what c.args.field.now c.args.above c.args.most c.loop-number.number _ c.in_ok-entry.entry c.requires.indexed i p.at e fails)

pub returns-clause-value : goal.returns-clause-value
returns-clause-value c = sym (is_nowhere c.args.self.now c.args.what c.args.field.now c.args.above c.args.most c.loop-number.number c.loop-number.invariant (omega arith))
