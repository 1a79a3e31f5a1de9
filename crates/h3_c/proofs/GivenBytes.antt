-- The fields of a list that C gives are of bytes, and so is each event.
use Rattle.std.proofs.Common.{◌≡◌, ℕ, zero, suc, Bool, true, false, if◌then◌else◌, List, [], ◌∷◌, drop, take, refl, subst, Option, Some, None}
use Rattle.std.specs.List.{AllByRecursion, list_all}
use Rattle.std.specs.Prelude.{◌+◌, nat_lt, length, option_map}
use Rattle.h3_field.specs.Field.{Field}
use Rattle.h3_field.specs.ReadBack.{AreBytes, IsFieldOfBytes}
use Rattle.h3_world.specs.declared.event.Event.{Event}
use Rattle.h3_world.specs.declared.event.Event.TheVariants as event
use Rattle.h3_session.specs.Typed.{IsTyped}
use Rattle.h3_c.specs.Given.{behind, field_at_front, fields_cut, fields_given, first_flag, is_flags}
use Rattle.h3_c.specs.declared.fields.FieldSize.{FieldSize}
use Rattle.h3_c.proofs.ViewsSteps.{AreOfC, IsOfC}

take_bytes : (count : ℕ) (bytes : List ℕ) → AreBytes bytes → AreBytes (take count bytes)
take_bytes zero bytes all = tt
take_bytes (suc count) [] all = tt
take_bytes (suc count) (byte ∷ bytes) all = (all.0, take_bytes count bytes all.1)

drop_bytes : (count : ℕ) (bytes : List ℕ) → AreBytes bytes → AreBytes (drop count bytes)
drop_bytes zero bytes all = all
drop_bytes (suc count) [] all = tt
drop_bytes (suc count) (byte ∷ bytes) all = drop_bytes count bytes all.1

same_fields : (one two : List Field) → Some one ≡ Some two → one ≡ two
same_fields one two is = cc

field_bytes : (size : FieldSize) (never_indexed : Bool) (bytes : List ℕ) → AreBytes bytes → IsFieldOfBytes (field_at_front size never_indexed bytes)
field_bytes size never_indexed bytes all = (take_bytes size.name bytes all, take_bytes size.value (drop size.name bytes) (drop_bytes size.name bytes all))

cut_bytes : (sizes : List FieldSize) (flags bytes : List ℕ) (fields : List Field) → AreBytes bytes → fields_cut sizes flags bytes ≡ Some fields → AllByRecursion IsFieldOfBytes fields
unfolding fields_cut
cut_bytes [] flags [] fields all is = subst (λ l. AllByRecursion IsFieldOfBytes l) (same_fields [] fields is) tt
cut_bytes [] flags (byte ∷ bytes) fields all is = absurd (let never : None ≡ Some fields = is in cc)
cut_bytes (size ∷ sizes) flags bytes fields all is =
    by (nat_lt (length bytes) (size.name + size.value)) (fields_cut sizes (drop 1 flags) (behind size bytes)) is
    (λ more at. cut_bytes sizes (drop 1 flags) (behind size bytes) more (drop_bytes (size.name + size.value) bytes all) at) refl
  where
    by : (short : Bool) (o : Option (List Field)) → (if short then None else option_map (λ more. field_at_front size (first_flag flags) bytes ∷ more) o) ≡ Some fields
        → ((more : List Field) → fields_cut sizes (drop 1 flags) (behind size bytes) ≡ Some more → AllByRecursion IsFieldOfBytes more) → fields_cut sizes (drop 1 flags) (behind size bytes) ≡ o → AllByRecursion IsFieldOfBytes fields
    by true o is later at = absurd (let never : None ≡ Some fields = is in cc)
    by false None is later at = absurd (let never : None ≡ Some fields = is in cc)
    by false (Some more) is later at =
        subst (λ l. AllByRecursion IsFieldOfBytes l) (same_fields (field_at_front size (first_flag flags) bytes ∷ more) fields is)
        (field_bytes size (first_flag flags) bytes all, later more at)

pub given_bytes : (sizes : List FieldSize) (flags bytes : List ℕ) (fields : List Field) → AreBytes bytes → fields_given sizes flags bytes ≡ Some fields → AllByRecursion IsFieldOfBytes fields
given_bytes sizes flags bytes fields all is = by (list_all is_flags flags) is
  where
    by : (b : Bool) → (if b then fields_cut sizes flags bytes else None) ≡ Some fields → AllByRecursion IsFieldOfBytes fields
    by true is = cut_bytes sizes flags bytes fields all is
    by false is = absurd (let never : None ≡ Some fields = is in cc)

typed_of : (e : Event) → IsOfC e → IsTyped e
typed_of (event.OpenRequest side) of = tt
typed_of (event.Head side id head) of = absurd of
typed_of (event.Fields side id fields) of = of
typed_of (event.Body side id bytes) of = tt
typed_of (event.Trailer side id trailer) of = absurd of
typed_of (event.TrailerFields side id fields) of = of
typed_of (event.Finish side id) of = tt
typed_of (event.Reset side id) of = tt
typed_of (event.Cancel side id) of = tt
typed_of (event.Goaway side id) of = of
typed_of (event.Deliver side id count) of = tt
typed_of (event.DeliverEnd side id) of = tt
typed_of (event.DeliverReset side id) of = tt
typed_of (event.Pull side id) of = absurd of
typed_of (event.PullFields side id) of = tt
typed_of (event.Show side) of = absurd of

pub are_typed : (events : List Event) → AreOfC events → AllByRecursion IsTyped events
are_typed [] of = tt
are_typed (e ∷ events) of = (typed_of e of.0, are_typed events of.1)
