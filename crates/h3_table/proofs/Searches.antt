-- A search of a table's entries along a chain of its index.
use Rattle.std.proofs.Common.{◌≡◌, ℕ, zero, suc, ◌+◌, ◌<◌, ◌≤◌, Bool, true, false, ◌&&◌, List, [], ◌∷◌, length, refl, sym, ◌∙◌, ap, arith, Some, None, nat_lt, nat_le, map, option_map, slice_get, get_or}
use Rattle.std.proofs.lemmas.Option.{slice_get-map, slice_get_within, get_or_from_slice_get}
use Rattle.std.proofs.lemmas.List.{length-map}
use Rattle.std.proofs.lemmas.Grind.{common_steps}
use Rattle.h3_field.specs.FieldLaws.{same_bytes, same_field}
use Rattle.h3_field.specs.Field.{Field}
use Rattle.h3_table.specs.Table.{newest_from}
use Rattle.h3_table.specs.TableState.{TableState, in_range, evicted, newest_in}
use Rattle.h3_table.specs.Matches.{matches}
use Rattle.h3_table.specs.Slots.{slot_of, name_slot, field_slot}
use Rattle.h3_table.specs.Index.{IsNewestBelow, IsIndexed}
use Rattle.h3_table.specs.declared.index.Index.{Index}
use Rattle.h3_table.specs.declared.entries.Match.{Match}
use Rattle.h3_table.specs.declared.entries.Match.TheVariants as what

-- what doesn't pass in a list is not found
nothing : (test : ℕ → Field → Bool) (first : ℕ) (fs : List Field) → ((i : ℕ) (e : Field) → slice_get fs i ≡ Some e → test (first + i) e ≡ false) → newest_from test first fs ≡ None
nothing test first [] none = refl
nothing test first (f ∷ fs) none =
    let here : first + 0 ≡ first = omega arith in
    let later = nothing test (first + 1) fs (λ i e at. let same : first + 1 + i ≡ first + suc i = omega arith in rw same (none (suc i) e at)) in
    rw (later, ap (λ n. test n f) (sym here) ∙ none 0 f refl) refl

-- what passes, where nothing behind it does, is found
found : (test : ℕ → Field → Bool) (first : ℕ) (fs : List Field) (place : ℕ) (f : Field) → slice_get fs place ≡ Some f → test (first + place) f ≡ true
    → ((i : ℕ) (e : Field) → place < i → slice_get fs i ≡ Some e → test (first + i) e ≡ false) → newest_from test first fs ≡ Some (first + place)
found test first [] place f at passes none = cc
found test first (g ∷ fs) zero f at passes none =
    let here : first + 0 ≡ first = omega arith in
    let same : g ≡ f = ap (λ o. get_or (g ∷ fs) 0 g) at ∙ get_or_from_slice_get (g ∷ fs) 0 f g at in
    let later = nothing test (first + 1) fs (λ i e is. let step : first + 1 + i ≡ first + suc i = omega arith in rw step (none (suc i) e (omega arith) is)) in
    rw (later, same, ap (λ n. test n f) (sym here) ∙ passes, here) refl
found test first (g ∷ fs) (suc place) f at passes none =
    let step : first + 1 + place ≡ first + suc place = omega arith in
    let later = found test (first + 1) fs place f at (rw step passes)
    (λ i e lt is. let same : first + 1 + i ≡ first + suc i = omega arith in rw same (none (suc i) e (omega (arith, lt)) is)) in
    rw (later, step) refl

-- Entries that match have one slot.
alike : (what : Match) (f e : Field) → matches what f e ≡ true → slot_of what e ≡ slot_of what f
alike what.Name f e h = ap name_slot (same_bytes e.name f.name h)
alike what.Field f e h = ap (λ (g : Field). field_slot (name_slot g.name) g.value) (same_field e f h)

-- No entry above the number is one to be found.
abbrev pub IsPast : TableState → Match → Field → ℕ → ℕ → ℕ → Type 0
IsPast h what f above most number =
    (i : ℕ) (e : Field) → slice_get h.entries i ≡ Some e → number < evicted h + 1 + i → in_range (matches what f) above most (evicted h + 1 + i) e ≡ false

-- A search stands at the entry of this number, where it is there.
pub record StandsAt (h : TableState) (what : Match) (f : Field) (above most number : ℕ) : Type 0 where
  pub below : number < evicted h + 1 + length h.entries
  pub here : (i : ℕ) → number ≡ evicted h + 1 + i → slice_get (map (slot_of what) h.entries) i ≡ Some (slot_of what f)
  pub past : IsPast h what f above most number

-- the next number of the chain below a bound, above which nothing is left
jump : (h : TableState) (what : Match) (f : Field) (above most bound number : ℕ) → IsNewestBelow (evicted h) (map (slot_of what) h.entries) (slot_of what f) bound number
    → bound ≤ evicted h + 1 + length h.entries
    → ((i : ℕ) (e : Field) → slice_get h.entries i ≡ Some e → bound ≤ evicted h + 1 + i → in_range (matches what f) above most (evicted h + 1 + i) e ≡ false)
    → StandsAt h what f above most number
jump h what f above most bound number n le past =
    record {
      below = omega (arith, n.below, le);
      here = n.here;
      past = λ i e at lt. by_order i e at lt (nat_le bound (evicted h + 1 + i)) refl;
    }
  where
    unmatched : (i : ℕ) (e : Field) (b : Bool) → matches what f e ≡ b → slice_get h.entries i ≡ Some e → number < evicted h + 1 + i → evicted h + 1 + i < bound → b ≡ false
    unmatched i e false m at lt below = refl
    unmatched i e true m at lt below =
        absurd (omega (arith, lt, n.newest i (slice_get-map (slot_of what) h.entries i ∙ ap (option_map (slot_of what)) at ∙ ap Some (alike what f e m)) below))

    and_false : (a b : Bool) → b ≡ false → (a && b) ≡ false
    and_false true b h = h
    and_false false b h = refl

    by_order : (i : ℕ) (e : Field) → slice_get h.entries i ≡ Some e → number < evicted h + 1 + i → (b : Bool) → nat_le bound (evicted h + 1 + i) ≡ b
        → in_range (matches what f) above most (evicted h + 1 + i) e ≡ false
    by_order i e at lt true o = past i e at (grind (arith, common_steps))
    by_order i e at lt false o =
        and_false _ (matches what f e) (unmatched i e (matches what f e) refl at lt (grind (arith, common_steps)))

pub stands_first : (h : TableState) (index : Index) (what : Match) (f : Field) (above most : ℕ) → IsIndexed index (evicted h) (map (slot_of what) h.entries) → slot_of what f < 256
    → StandsAt h what f above most (get_or index.heads.items (slot_of what f) 0)
stands_first h index what f above most i small =
    let len = length-map h.entries (slot_of what) in
    jump h what f above most (evicted h + 1 + length (map (slot_of what) h.entries)) _ (i.heads (slot_of what f) small) (omega (arith, len))
    (λ place e at le. absurd (omega (arith, le, len, slice_get_within h.entries place e at)))

pub stands_next : (h : TableState) (index : Index) (what : Match) (f : Field) (above most number place : ℕ) (e : Field) → IsIndexed index (evicted h) (map (slot_of what) h.entries)
    → StandsAt h what f above most number → number ≡ evicted h + 1 + place → slice_get h.entries place ≡ Some e → in_range (matches what f) above most number e ≡ false
    → StandsAt h what f above most (get_or index.links.items place 0)
stands_next h index what f above most number place e i s at is fails =
    jump h what f above most (evicted h + 1 + place) _ (i.links place (slot_of what f) (s.here place at)) (omega (arith, at, s.below))
    (λ j d there le. by_order j d there le (nat_lt number (evicted h + 1 + j)) refl)
  where
    same : (d : Field) → slice_get h.entries place ≡ Some d → e ≡ d
    same d there = sym (get_or_from_slice_get h.entries place e e is) ∙ get_or_from_slice_get h.entries place d e there

    by_order : (j : ℕ) (d : Field) → slice_get h.entries j ≡ Some d → evicted h + 1 + place ≤ evicted h + 1 + j → (b : Bool) → nat_lt number (evicted h + 1 + j) ≡ b
        → in_range (matches what f) above most (evicted h + 1 + j) d ≡ false
    by_order j d there le true o = s.past j d there (grind (arith, common_steps))
    by_order j d there le false o =
        let equal : j ≡ place = grind (arith, common_steps) in
        let number_is : evicted h + 1 + j ≡ number = omega (arith, equal, at) in
        rw (number_is, ← same d (ap (slice_get h.entries) (sym equal) ∙ there)) fails

pub is_found : (h : TableState) (what : Match) (f : Field) (above most number place : ℕ) (e : Field) → StandsAt h what f above most number → number ≡ evicted h + 1 + place
    → slice_get h.entries place ≡ Some e → above < number → number ≤ most → matches what f e ≡ true → newest_in h (matches what f) above most ≡ Some number
is_found h what f above most number place e s at is low high passes =
    found (in_range (matches what f) above most) (evicted h + 1) h.entries place e is (rw (← at) inside) (λ i d lt there. s.past i d there (omega (arith, at, lt))) ∙ ap Some (sym at)
  where
    inside : in_range (matches what f) above most number e ≡ true
    inside = grind (arith, common_steps)

pub is_nowhere : (h : TableState) (what : Match) (f : Field) (above most number : ℕ) → StandsAt h what f above most number → number ≤ above → newest_in h (matches what f) above most ≡ None
is_nowhere h what f above most number s le =
    nothing (in_range (matches what f) above most) (evicted h + 1) h.entries (λ i e at. by_order i e at (nat_lt number (evicted h + 1 + i)) refl)
  where
    by_order : (i : ℕ) (e : Field) → slice_get h.entries i ≡ Some e → (b : Bool) → nat_lt number (evicted h + 1 + i) ≡ b → in_range (matches what f) above most (evicted h + 1 + i) e ≡ false
    by_order i e at true o = s.past i e at (grind (arith, common_steps))
    by_order i e at false o = grind (arith, common_steps)
