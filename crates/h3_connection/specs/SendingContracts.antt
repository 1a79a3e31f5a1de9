-- What each call that sends, opens or gives up promises: for every history that is stored, the exact answer, what stands after
-- it, and what is left where memory was refused.
use Rattle.std.specs.Prelude.{◌≡◌, ◌≢◌, ℕ, ◌≤◌, List, [], length, take, min, Option, Some, None, Result, Ok, Err}
use Rattle.h3_field.specs.Field.{Field}
use Rattle.h3_header.specs.Head.{Head, head_fields}
use Rattle.h3_proto.specs.Further.{further_from}
use Rattle.h3_proto.specs.declared.frame.SettingsError.{SettingsError}
use Rattle.h3_proto.specs.declared.stream.Side.{Side}
use Rattle.h3_connection.specs.Answers.{call_refused, body_refused}
use Rattle.h3_connection.specs.Calls.{IsSame, MakesEnd, IsNewError}
use Rattle.h3_connection.specs.Endpoint.{EndpointHistory, bytes_waiting, new_endpoint_with}
use Rattle.h3_connection.specs.Sections.{with_insertions}
use Rattle.h3_connection.specs.Sending.{open_request, send_head, send_body, send_trailer, finish, reset, goaway, cancel, advance}
use Rattle.h3_connection.specs.State.{EndpointState, StandsFor}
use Rattle.h3_connection.specs.declared.event.Refusal.{Refusal}
use Rattle.h3_connection.specs.declared.event.Refusal.TheVariants as refusal
use Rattle.h3_connection.specs.declared.setup.Announced.{Announced}
use Rattle.h3_connection.specs.declared.setup.NewError.{NewError}
use Rattle.h3_connection.specs.declared.setup.NewError.TheVariants as new_error

-- `new`: what stands for the beginning of what was announced, or the first refusal of the setup
abbrev pub Creates : Side → Result Announced NewError → Result EndpointState NewError → Type 0
Creates side made (Ok s) = MakesEnd side made s
Creates side made (Err e) = IsNewError e made

-- `new_with`: what stands for the beginning of what was announced with these further settings, or why they are refused
abbrev pub CreatesFurther : Side → Announced → Result (List (ℕ × ℕ)) SettingsError → Result EndpointState NewError → Type 0
CreatesFurther side a (Ok further) (Ok s) = StandsFor s (new_endpoint_with side a further)
CreatesFurther side a (Ok further) (Err e) = e ≡ new_error.OutOfMemory
CreatesFurther side a (Err e) result = Creates side (Err (new_error.Settings e)) result

-- These are judged last
abbrev pub CreatesWith : Side → Result Announced NewError → List (ℕ × ℕ) → Result EndpointState NewError → Type 0
CreatesWith side (Ok a) pairs result = CreatesFurther side a (further_from a.settings [] pairs) result
CreatesWith side (Err e) pairs result = Creates side (Err e) result

-- A call does this, or is refused with nothing changed. Want of memory comes last, and changes nothing.
pub record DoesOrRefuses (act : EndpointHistory → Option Refusal × EndpointHistory) (old new : EndpointState) (refused : Option Refusal) : Type 0 where
  pub done : (e : EndpointHistory) → StandsFor old e → refused ≢ Some refusal.OutOfMemory → (refused ≡ (act e).0) × StandsFor new (act e).1
  pub same : refused ≢ None → IsSame old new
  pub memory : (e : EndpointHistory) → StandsFor old e → refused ≡ Some refusal.OutOfMemory → (act e).0 ≡ None

-- The same of a call that takes no memory.
pub record DoesAlways (act : EndpointHistory → Option Refusal × EndpointHistory) (old new : EndpointState) (refused : Option Refusal) : Type 0 where
  pub done : (e : EndpointHistory) → StandsFor old e → (refused ≡ (act e).0) × StandsFor new (act e).1
  pub same : refused ≢ None → IsSame old new
  pub memory : refused ≢ Some refusal.OutOfMemory

-- `open_request` answers the next id.
pub record Opens (old new : EndpointState) (result : Result ℕ Refusal) : Type 0 where
  pub opens : DoesOrRefuses open_request old new (call_refused result)
  pub id : (opened : ℕ) → result ≡ Ok opened → opened ≡ old.next_id

-- Want of memory comes last. What is judged of a section by a list that has to be made stands behind it: the rules of strict messages, and its size.
abbrev pub MayLackMemory : Option Refusal → Type 0
MayLackMemory None = Unit {0}
MayLackMemory (Some (refusal.Malformed why)) = Unit {0}
MayLackMemory (Some (refusal.TooLarge size)) = Unit {0}
MayLackMemory (Some r) = ⊥

-- The stream is as it was, and the encoder stream gained whole instructions: those of the insertions made for a front of the
-- fields.
pub record CutsOff (e : EndpointHistory) (id : ℕ) (fields : List Field) (new : EndpointState) : Type 0 where
  pub front : ℕ
  pub within : front ≤ length fields
  pub stands : StandsFor new (with_insertions e id (take front fields))

pub record SendsSection (act : EndpointHistory → Option Refusal × EndpointHistory) (old new : EndpointState) (id : ℕ) (fields : List Field) (refused : Option Refusal) : Type 0 where
  pub done : (e : EndpointHistory) → StandsFor old e → refused ≢ Some refusal.OutOfMemory → (refused ≡ (act e).0) × StandsFor new (act e).1
  pub same : refused ≢ None → refused ≢ Some refusal.OutOfMemory → IsSame old new
  pub memory : (e : EndpointHistory) → StandsFor old e → refused ≡ Some refusal.OutOfMemory → MayLackMemory (act e).0 × CutsOff e id fields new
  -- of a section that is malformed or too large nothing was inserted
  pub too_large : (e : EndpointHistory) → StandsFor old e → refused ≡ Some refusal.OutOfMemory → (act e).0 ≢ None → IsSame old new

-- `send_head` and `send_trailer`
abbrev pub SendsHead : EndpointState → EndpointState → ℕ → Head → Result Unit Refusal → Type 0
SendsHead old new id head result = SendsSection (λ e. send_head e id head) old new id (head_fields head) (call_refused result)

abbrev pub SendsTrailer : EndpointState → EndpointState → ℕ → Head → Result Unit Refusal → Type 0
SendsTrailer old new id head result = SendsSection (λ e. send_trailer e id head) old new id (head_fields head) (call_refused result)

-- `send_body`: a refused body comes back
pub record SendsBody (old new : EndpointState) (id : ℕ) (bytes : List ℕ) (result : Result Unit (Refusal × List ℕ)) : Type 0 where
  pub sends : DoesOrRefuses (λ e. send_body e id bytes) old new (body_refused result)
  pub back : (r : Refusal) (handed : List ℕ) → result ≡ Err (r, handed) → handed ≡ bytes

-- `finish` and `reset` take no memory
abbrev pub Finishes : EndpointState → EndpointState → ℕ → Result Unit Refusal → Type 0
Finishes old new id result = DoesAlways (λ e. finish e id) old new (call_refused result)

abbrev pub Resets : EndpointState → EndpointState → ℕ → Result Unit Refusal → Type 0
Resets old new id result = DoesAlways (λ e. reset e id) old new (call_refused result)

-- `goaway` and `cancel`
abbrev pub GoesAway : EndpointState → EndpointState → ℕ → Result Unit Refusal → Type 0
GoesAway old new id result = DoesOrRefuses (λ e. goaway e id) old new (call_refused result)

abbrev pub Cancels : EndpointState → EndpointState → ℕ → Result Unit Refusal → Type 0
Cancels old new id result = DoesOrRefuses (λ e. cancel e id) old new (call_refused result)

-- `advance` takes so many bytes of what waits, at most all
abbrev pub Advances : EndpointState → EndpointState → ℕ → ℕ → Type 0
Advances old new id count = (e : EndpointHistory) → StandsFor old e → StandsFor new (advance e id (min count (length (bytes_waiting e id))))
