-- What a list that reads as a head with an outline is, and why no header is made of it.
use Rattle.std.proofs.Common.{◌≡◌, ◌<◌, Bool, List, [], ◌∷◌, length, inl, inr, refl, subst}
use Rattle.std.specs.Prelude.{Option, Some, None, Result, Ok, Err}
use Rattle.h3_field.specs.Field.{Field}
use Rattle.h3_header.specs.Head.{Head, trailer_head}
use Rattle.h3_header.specs.HeadRead.{HeadRead, HeadRefusal, IsHead, IsNone, head_by, told}
use Rattle.h3_header.specs.Reads.{RefusesAt, RefusesOne, kind_of, with_field}
use Rattle.h3_header.specs.declared.headers.error.HeaderError.{HeaderError}
use Rattle.h3_header.specs.declared.headers.error.HeaderError.TheVariants as error
use Rattle.h3_header.specs.declared.headers.kind.FieldKind.{FieldKind}
use Rattle.h3_messages.specs.Outline.{IsListRead, IsOutlined, outline_of, refusal_by}
use Rattle.h3_messages.specs.declared.outline.Outline.{Outline}
use Rattle.h3_messages.specs.declared.reading.ListError.{ListError}

pub outlined_head : (r : HeadRead) (o : Outline) → IsOutlined r o → (P : Type 0) → ((h : Head) → r ≡ IsHead h → o ≡ outline_of h → P) → P
outlined_head (IsHead h) o is P given = given h refl is
outlined_head (IsNone why) o is P given = absurd is

-- what a list reads as, where that was told
pub told_outline : (any : Bool) (fields : List Field) (list : Result Outline ListError) (o : Outline) → IsListRead any fields list → list ≡ Ok o → IsOutlined (head_by any fields) o
told_outline any fields list o read is = subst (IsListRead any fields) is read

pub told_refusal : (any : Bool) (fields : List Field) (list : Result Outline ListError) (e : ListError) → IsListRead any fields list → list ≡ Err e → (why : HeadRefusal) → refusal_by e ≡ Some why → head_by any fields ≡ IsNone why
told_refusal any fields list e read is why some = (subst (IsListRead any fields) is read).0 why some

pub many_fields : (any : Bool) (fields : List Field) (list : Result Outline ListError) (e : ListError) → IsListRead any fields list → list ≡ Err e → refusal_by e ≡ None → 24576 < length fields
many_fields any fields list e read is none = (subst (IsListRead any fields) is read).1 none

-- a refusal that tells no malformation is for want of memory
memory_at : (any : Bool) (at : FieldKind) (h : Head) (f : Field) (e : HeaderError) → RefusesAt any at h f e → told e ≡ None → RefusesAt any at h f error.OutOfMemory
memory_at any at h f (error.InvalidHeaderName _) why none = absurd (cc)
memory_at any at h f (error.InvalidHeaderValue _) why none = absurd (cc)
memory_at any at h f error.TooManyFields why none = absurd (cc)
memory_at any at h f error.InvalidRequest why none = absurd why
memory_at any at h f error.MissingMethod why none = absurd why
memory_at any at h f error.MissingStatus why none = absurd why
memory_at any at h f error.MissingAuthority why none = absurd why
memory_at any at h f error.ContradictedAuthority why none = absurd why
memory_at any at h f error.OutOfMemory why none = why

pub wants_memory : (any : Bool) (h : Head) (fields : List Field) (e : HeaderError) → RefusesOne any h fields e → told e ≡ None → RefusesOne any h fields error.OutOfMemory
unfolding RefusesOne
wants_memory any h [] e why none = absurd why
wants_memory any h (f ∷ fields) e (inl here) none = inl (memory_at any (kind_of f.name) h f e here none)
wants_memory any h (f ∷ fields) e (inr later) none = inr (later.0, wants_memory any (with_field h f) fields e later.1 none)

-- and so is each of a list that reads as a head
pub lacks_memory : (any : Bool) (fields : List Field) (e : HeaderError) (o : Outline) → ((why : HeadRefusal) → told e ≡ Some why → head_by any fields ≡ IsNone why) → IsOutlined (head_by any fields) o
    → RefusesOne any (trailer_head []) fields e → RefusesOne any (trailer_head []) fields error.OutOfMemory
lacks_memory any fields e o law is refused = by (told e) refl
  where
    by : (t : Option HeadRefusal) → told e ≡ t → RefusesOne any (trailer_head []) fields error.OutOfMemory
    by None none = wants_memory any (trailer_head []) fields e refused none
    by (Some why) some = absurd (subst (λ r. IsOutlined r o) (law why some) is)
