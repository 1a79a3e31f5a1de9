-- What follows from the way in which a field list is read.
use Rattle.std.specs.Prelude.{◌≡◌, Bool, List, [], ◌∷◌, refl, Option, Some, None, option_map, is_some, ◌||◌}
use Rattle.std.proofs.Common.{subst, inl, inr, ap}
use Rattle.http_uri.specs.Grammar.{or_slash}
use Rattle.h3_field.specs.Field.{Field}
use Rattle.h3_header.specs.Head.{Head, has_pseudo}
use Rattle.h3_header.specs.Reads.{kind_of, HasRoomAt, AcceptsAt, RefusesAt, AcceptsAll, RefusesOne, with_field}
use Rattle.h3_header.specs.ReadsBack.{as_read}
use Rattle.h3_header.specs.declared.headers.error.HeaderError.{HeaderError}
use Rattle.h3_header.specs.declared.headers.error.HeaderError.TheVariants.{InvalidHeaderName, InvalidHeaderValue, InvalidRequest, MissingMethod, MissingStatus, MissingAuthority, ContradictedAuthority, TooManyFields, OutOfMemory}
use Rattle.h3_header.specs.declared.headers.kind.FieldKind.{FieldKind}

only_memory_at : (any : Bool) (at : FieldKind) (h : Head) (f : Field) (e : HeaderError) → AcceptsAt any at h f → RefusesAt any at h f e → e ≡ OutOfMemory
only_memory_at any at h f (InvalidHeaderName _) ok why = absurd (why ok.name)
only_memory_at any at h f (InvalidHeaderValue _) ok why = absurd (why.1 ok.value)
only_memory_at any at h f TooManyFields ok why = absurd (subst (λ a. HasRoomAt a h f) why.0 ok.room why.3)
only_memory_at any at h f InvalidRequest ok why = absurd why
only_memory_at any at h f MissingMethod ok why = absurd why
only_memory_at any at h f MissingStatus ok why = absurd why
only_memory_at any at h f MissingAuthority ok why = absurd why
only_memory_at any at h f ContradictedAuthority ok why = absurd why
only_memory_at any at h f OutOfMemory ok why = refl

-- a list that can be read is refused for memory alone
pub only_memory : (any : Bool) (h : Head) (fields : List Field) (e : HeaderError) → AcceptsAll any h fields → RefusesOne any h fields e → e ≡ OutOfMemory
unfolding AcceptsAll RefusesOne
only_memory any h [] e ok why = absurd why
only_memory any h (f ∷ fields) e ok (inl here) = only_memory_at any (kind_of f.name) h f e ok.0 here
only_memory any h (f ∷ fields) e ok (inr later) = only_memory any (with_field h f) fields e ok.1 later.1

is_some-mapped : {A B : Type 0} (f : A → B) (x : Option A) → is_some (option_map f x) ≡ is_some x
is_some-mapped f None = refl
is_some-mapped f (Some x) = refl

pub same_has_pseudo : (h : Head) → has_pseudo (as_read h) ≡ has_pseudo h
same_has_pseudo h = ap (λ b. is_some h.method || is_some h.scheme || is_some h.authority || b || is_some h.status || is_some h.protocol) (is_some-mapped or_slash h.path)
