-- A pseudo-header field, judged by its value alone, as a field of a head.
use Rattle.std.proofs.Common.{◌≡◌, ℕ, Bool, List, refl, sym, ap, subst, Result, Ok, Err, OnOk, IfErr}
use Rattle.http_header.specs.FieldName.{IsHeaderName}
use Rattle.http_header.specs.FieldValue.{FieldValue, plain_value, IsFieldValue}
use Rattle.http_header.specs.HeaderMap.{Entries, append, RefusesAppend}
use Rattle.h3_field.specs.Field.{Field}
use Rattle.h3_header.specs.Parts.{head_of_parts}
use Rattle.h3_header.specs.Reads.{IsValueAt, AcceptsAt, RefusesAt, RefusesPseudo, Accepts, Refuses, kind_of, with_field, with_kind, with_pseudo}
use Rattle.h3_header.specs.Head.{Head}
use Rattle.h3_header.specs.declared.headers.pseudo.Pseudo.{Pseudo}
use Rattle.h3_header.specs.declared.headers.kind.FieldKind.{FieldKind}
use Rattle.h3_header.specs.declared.headers.kind.FieldKind.TheVariants.{Method, Scheme, Authority, Path, Status, Protocol, Regular}
use Rattle.h3_header.specs.declared.headers.error.HeaderError.{HeaderError}
use Rattle.h3_header.specs.declared.headers.error.HeaderError.TheVariants.{InvalidHeaderName, InvalidHeaderValue, InvalidRequest, MissingMethod, MissingStatus, MissingAuthority, ContradictedAuthority, TooManyFields, OutOfMemory}

pub accepts_pseudo : (any : Bool) (at : FieldKind) (h : Head) (f : Field) → (at ≡ Regular → ⊥) → IsValueAt any at f.value → AcceptsAt any at h f
accepts_pseudo any Method h f other v = record { name = tt; value = v; room = tt }
accepts_pseudo any Scheme h f other v = record { name = tt; value = v; room = tt }
accepts_pseudo any Authority h f other v = record { name = tt; value = v; room = tt }
accepts_pseudo any Path h f other v = record { name = tt; value = v; room = tt }
accepts_pseudo any Status h f other v = record { name = tt; value = v; room = tt }
accepts_pseudo any Protocol h f other v = record { name = tt; value = v; room = tt }
accepts_pseudo any Regular h f other v = absurd (other refl)

pub with_kind_pseudo : (at : FieldKind) (p : Pseudo) (m : Entries FieldValue) (f : Field) → (at ≡ Regular → ⊥) → head_of_parts (with_pseudo at p f.value) m ≡ with_kind at (head_of_parts p m) f
with_kind_pseudo Method p m f other = refl
with_kind_pseudo Scheme p m f other = refl
with_kind_pseudo Authority p m f other = refl
with_kind_pseudo Path p m f other = refl
with_kind_pseudo Status p m f other = refl
with_kind_pseudo Protocol p m f other = refl
with_kind_pseudo Regular p m f other = absurd (other refl)

pub refuses_pseudo : (any : Bool) (at : FieldKind) (h : Head) (f : Field) (e : HeaderError) → (at ≡ Regular → ⊥) → RefusesPseudo any at f.value e → RefusesAt any at h f e
refuses_pseudo any at h f (InvalidHeaderName n) other r = absurd r
refuses_pseudo any Method h f (InvalidHeaderValue n) other r = (tt, r)
refuses_pseudo any Scheme h f (InvalidHeaderValue n) other r = (tt, r)
refuses_pseudo any Authority h f (InvalidHeaderValue n) other r = (tt, r)
refuses_pseudo any Path h f (InvalidHeaderValue n) other r = (tt, r)
refuses_pseudo any Status h f (InvalidHeaderValue n) other r = (tt, r)
refuses_pseudo any Protocol h f (InvalidHeaderValue n) other r = (tt, r)
refuses_pseudo any Regular h f (InvalidHeaderValue n) other r = absurd (other refl)
refuses_pseudo any at h f InvalidRequest other r = absurd r
refuses_pseudo any at h f MissingMethod other r = absurd r
refuses_pseudo any at h f MissingStatus other r = absurd r
refuses_pseudo any at h f MissingAuthority other r = absurd r
refuses_pseudo any at h f ContradictedAuthority other r = absurd r
refuses_pseudo any at h f TooManyFields other r = absurd r
refuses_pseudo any at h f OutOfMemory other r = r

-- what the reading of a field ensures, from what the reading of its parts does
pub regular_ok : {T E : Type 0} (any : Bool) (r : Result T E) (p : Pseudo) (m new : Entries FieldValue) (f : Field) (name value : List ℕ)
    → kind_of f.name ≡ Regular → name ≡ f.name → value ≡ f.value
    → OnOk r (IsHeaderName name × IsFieldValue value × ¬ (RefusesAppend m name) × (new ≡ append m name (plain_value value)))
    → OnOk r (Accepts any (head_of_parts p m) f × (head_of_parts p new ≡ with_field (head_of_parts p m) f))
regular_ok any (Err e) p m new f name value kind is_name is_value ok = tt
regular_ok any (Ok v) p m new f name value kind is_name is_value ok =
    let h = head_of_parts p m in
    let named = subst (λ n. IsHeaderName n × IsFieldValue value × ¬ (RefusesAppend m n) × (new ≡ append m n (plain_value value))) is_name ok in
    let w = subst (λ v. IsHeaderName f.name × IsFieldValue v × ¬ (RefusesAppend m f.name) × (new ≡ append m f.name (plain_value v))) is_value named in
    subst (λ k. AcceptsAt any k h f × (head_of_parts p new ≡ with_kind k h f)) (sym kind) (record { name = w.0; value = w.1; room = w.2 }, ap (λ x. head_of_parts p x) w.3)

pub pseudo_ok : {T E : Type 0} (any : Bool) (r : Result T E) (p new : Pseudo) (m : Entries FieldValue) (f : Field) (at : FieldKind) (value : List ℕ)
    → at ≡ kind_of f.name → value ≡ f.value → (at ≡ Regular → ⊥)
    → OnOk r (IsValueAt any at value × (new ≡ with_pseudo at p value))
    → OnOk r (Accepts any (head_of_parts p m) f × (head_of_parts new m ≡ with_field (head_of_parts p m) f))
pseudo_ok any (Err e) p new m f at value kind is_value other ok = tt
pseudo_ok any (Ok v) p new m f at value kind is_value other ok =
    let h = head_of_parts p m in
    let w = subst (λ v. IsValueAt any at v × (new ≡ with_pseudo at p v)) is_value ok in
    subst (λ k. AcceptsAt any k h f × (head_of_parts new m ≡ with_kind k h f)) kind
    (accepts_pseudo any at h f other w.0, subst (λ x. head_of_parts x m ≡ with_kind at h f) (sym w.1) (with_kind_pseudo at p m f other))

pub pseudo_err : {T : Type 0} (any : Bool) (r : Result T HeaderError) (h : Head) (f : Field) (at : FieldKind) (value : List ℕ)
    → at ≡ kind_of f.name → value ≡ f.value → (at ≡ Regular → ⊥) → IfErr r (RefusesPseudo any at value) → IfErr r (Refuses any h f)
pseudo_err any (Ok v) h f at value kind is_value other err = tt
pseudo_err any (Err e) h f at value kind is_value other err =
    subst (λ k. RefusesAt any k h f e) kind (refuses_pseudo any at h f e other (subst (λ v. RefusesPseudo any at v e) is_value err))
