-- Answers with lists: each stands for the answer with headers, and happens where that does.
use Rattle.std.proofs.Common.{◌≡◌, ℕ, Bool, true, false, List, [], ◌∷◌, refl, sym, ap, ◌∙◌, subst, if◌then◌else◌, Option, Some, None}
use Rattle.std.specs.Prelude.{◌==◌, ◌%◌, not, IfSome, MatchOption, option_map, fold}
use Rattle.h3_field.specs.Field.{Field, flagged}
use Rattle.h3_field.specs.Secret.{guarded, is_secret}
use Rattle.h3_header.specs.Head.{Head as Fields, trailer_head}
use Rattle.h3_header.specs.Reads.{head_of_fields, kind_of, with_field, with_kind}
use Rattle.h3_header.specs.declared.headers.kind.FieldKind.{FieldKind}
use Rattle.h3_header.specs.declared.headers.kind.FieldKind.TheVariants.{Method, Scheme, Authority, Path, Status, Protocol, Regular}
use Rattle.h3_proto.specs.StreamIds.{is_request_stream}
use Rattle.h3_proto.specs.declared.stream.Side.{Side}
use Rattle.h3_connection.specs.Announcing.{section_of}
use Rattle.h3_connection.specs.OwnIds.{other, control_id}
use Rattle.h3_connection.specs.Pulling.{is_client}
use Rattle.h3_connection.specs.declared.event.Item.{Item}
use Rattle.h3_connection.specs.declared.event.Item.TheVariants as item
use Rattle.h3_connection.specs.declared.event.Pull.{Pull}
use Rattle.h3_connection.specs.declared.event.Pull.TheVariants as pull
use Rattle.h3_connection.specs.declared.event.Fault.TheVariants as fault
use Rattle.h3_connection.specs.declared.event.StreamFault.{StreamFault}
use Rattle.h3_connection.specs.declared.lists.ListPull.{ListPull}
use Rattle.h3_connection.specs.declared.lists.ListPull.TheVariants as list
use Rattle.h3_connection.specs.Lists.{IsListedAs, listed_pull, pull_of}
use Rattle.h3_world.specs.declared.event.Event.TheVariants as event
use Rattle.h3_world.specs.declared.event.Answer.TheVariants as answer
use Rattle.h3_world.specs.Flow.{Flow, Part, Section}
use Rattle.h3_world.specs.Flow.Part.{Interim, Head, Body, Trailer, End}
use Rattle.h3_world.specs.Headline.{Happens, PullComesOut, is_connection_fault}
use Rattle.h3_world.specs.Items.{HasCome, IsSectionItem}
use Rattle.h3_world.specs.Lists.{as_flagged}
use Rattle.h3_world.specs.Order.{is_over, next_part, section_of_part}
use Rattle.h3_world.specs.Pulling.{PausesExactly, Pulls, PullsNext, fault_or, list_next, own_delivered, settled}
use Rattle.h3_world.specs.Setup.{Setup, announced_at, flags_secrets}
use Rattle.h3_world.specs.Streams.{flow, is_open}
use Rattle.h3_world.specs.World.{World}

-- A field is read alike whichever flag it has.
kind_flagged : (at : FieldKind) (h : Fields) (f : Field) (b : Bool) → with_kind at h (flagged f b) ≡ with_kind at h f
kind_flagged Method h f b = refl
kind_flagged Scheme h f b = refl
kind_flagged Authority h f b = refl
kind_flagged Path h f b = refl
kind_flagged Status h f b = refl
kind_flagged Protocol h f b = refl
kind_flagged Regular h f b = refl

field_guarded : (guards : Bool) (h : Fields) (f : Field) → with_field h (guarded guards f) ≡ with_field h f
field_guarded true h f = by_secret (is_secret f)
  where
    by_secret : (b : Bool) → with_field h (if b then flagged f true else f) ≡ with_field h f
    by_secret true = kind_flagged (kind_of f.name) h f true
    by_secret false = refl
field_guarded false h f = refl

list_guarded : (guards : Bool) (h : Fields) (fields : List Field) → fold with_field h (as_flagged guards fields) ≡ fold with_field h fields
list_guarded guards h [] = refl
list_guarded guards h (f ∷ fields) =
    list_guarded guards (with_field h (guarded guards f)) fields ∙ ap (λ k. fold with_field k fields) (field_guarded guards h f)

-- So is a list.
pub read_flagged : (guards : Bool) (fields : List Field) → head_of_fields (as_flagged guards fields) ≡ head_of_fields fields
read_flagged guards fields = list_guarded guards (trailer_head []) fields

-- An answer that is settled has no header.
pub settled_listed : (fields : Option (List Field)) (w : World) (side : Side) (id : ℕ) → IfSome (settled w side id) (IsListedAs fields)
settled_listed fields w side id = by_tests (id % 4 == control_id (other side)) (not (is_request_stream id)) (is_open w side id) (flow w (other side) id).fault (is_over (flow w (other side) id)) (own_delivered w (other side) id == 0) (is_client side)
  where
    by_tests : (a b c : Bool) (o : Option StreamFault) (d e g : Bool)
        → IfSome (if a then Some (if e then pull.Pending else pull.NoMessages) else (if b then Some pull.NoMessages else (
        if not c then Some (if g then pull.NoMessages else pull.Pending) else fault_or o (if d then Some (pull.Item item.End) else None)))) (IsListedAs fields)
    by_tests true b c o d true g = record { stands = refl; has = tt }
    by_tests true b c o d false g = record { stands = refl; has = tt }
    by_tests false true c o d e g = record { stands = refl; has = tt }
    by_tests false false false o d e true = record { stands = refl; has = tt }
    by_tests false false false o d e false = record { stands = refl; has = tt }
    by_tests false false true (Some fault) d e g = record { stands = refl; has = tt }
    by_tests false false true None true e g = record { stands = refl; has = tt }
    by_tests false false true None false e g = tt

-- the item of a section
item_listed : (guards : Bool) (kind : Fields → Item) (s : Section) (i : Item) → ((fields : List Field) → head_of_fields fields ≡ head_of_fields s.fields → IsListedAs (Some fields) (pull.Item (kind (head_of_fields s.fields))))
    → i ≡ kind (head_of_fields s.fields) → IsListedAs (Some (as_flagged guards s.fields)) (pull.Item i)
item_listed guards kind s i whole e = subst (λ x. IsListedAs (Some (as_flagged guards s.fields)) (pull.Item x)) (sym e) (whole (as_flagged guards s.fields) (read_flagged guards s.fields))

pub section_listed : (guards : Bool) (kind : Fields → Item) (most : ℕ) (s : Section) (i : Item)
    → ((fields : List Field) → head_of_fields fields ≡ head_of_fields s.fields → IsListedAs (Some fields) (pull.Item (kind (head_of_fields s.fields))))
    → IsSectionItem kind most s.fields i → IsListedAs (Some (as_flagged guards s.fields)) (pull.Item i)
section_listed guards kind most s (item.TooLarge size) whole h = record { stands = refl; has = tt }
section_listed guards kind most s (item.Interim head) whole h = item_listed guards kind s (item.Interim head) whole h.0
section_listed guards kind most s (item.Head head) whole h = item_listed guards kind s (item.Head head) whole h.0
section_listed guards kind most s (item.Body bytes) whole h = item_listed guards kind s (item.Body bytes) whole h.0
section_listed guards kind most s (item.Trailer head) whole h = item_listed guards kind s (item.Trailer head) whole h.0
section_listed guards kind most s (item.Session id) whole h = item_listed guards kind s (item.Session id) whole h.0
section_listed guards kind most s (item.Raw bytes) whole h = item_listed guards kind s (item.Raw bytes) whole h.0
section_listed guards kind most s item.End whole h = item_listed guards kind s item.End whole h.0

-- the next item
pub come_listed : (guards : Bool) (most : ℕ) (f : Flow) (part : Option Part) (i : Item) → HasCome most f part i → IsListedAs (option_map (λ (s : Section). as_flagged guards s.fields) (section_of_part part)) (pull.Item i)
come_listed guards most f None i has = absurd has
come_listed guards most f (Some (Interim s)) i has = section_listed guards item.Interim most s i (λ fields e. record { stands = ap (λ h. pull.Item (item.Interim h)) e; has = refl }) has.1
come_listed guards most f (Some (Head s)) i has = section_listed guards item.Head most s i (λ fields e. record { stands = ap (λ h. pull.Item (item.Head h)) e; has = refl }) has.1
come_listed guards most f (Some (Trailer s)) i has = section_listed guards item.Trailer most s i (λ fields e. record { stands = ap (λ h. pull.Item (item.Trailer h)) e; has = refl }) has.1
come_listed guards most f (Some (Body bytes own)) i has = subst (λ x. IsListedAs None (pull.Item x)) (sym has.3) (record { stands = refl; has = tt })
come_listed guards most f (Some End) i has = subst (λ x. IsListedAs None (pull.Item x)) (sym has.1) (record { stands = refl; has = tt })

-- **Each answer of a pull, with the list that is next.**
pub pulls_listed : (setup : Setup) (w new : World) (side : Side) (id : ℕ) (p : Pull) → Pulls setup w side id p new → IsListedAs (list_next setup w side id) p
pulls_listed setup w new side id p pulls = by_settled (settled w side id) (settled_listed fields w side id) pulls
  where
    fields : Option (List Field)
    fields = list_next setup w side id

    by_pull : (p : Pull) → PullsNext setup w side id p new → IsListedAs fields p
    by_pull (pull.Item i) next =
        come_listed (flags_secrets (announced_at setup (other side))) (section_of (announced_at setup side)) (flow w (other side) id) (next_part (flow w (other side) id)) i next.0
    by_pull pull.Pending next = record { stands = refl; has = tt }
    by_pull (pull.Waiting count) next = record { stands = refl; has = tt }
    by_pull (pull.Fault fault) next = record { stands = refl; has = tt }
    by_pull pull.NoMessages next = record { stands = refl; has = tt }

    by_settled : (o : Option Pull) → IfSome o (IsListedAs fields) → MatchOption o (PullsNext setup w side id p new) (λ answer. (p ≡ answer) × (new ≡ w)) → IsListedAs fields p
    by_settled None none next = by_pull p next
    by_settled (Some q) is next = subst (IsListedAs fields) (sym next.0) is

-- It tells of a connection error where the pull does.
pub fault_listed : (l : ListPull) → is_connection_fault (answer.Listed l) ≡ is_connection_fault (answer.Pulled (pull_of l))
fault_listed (list.Item i) = refl
fault_listed list.Pending = refl
fault_listed (list.Waiting count) = refl
fault_listed (list.Fault (fault.Connection code)) = refl
fault_listed (list.Fault (fault.Stream why)) = refl
fault_listed (list.Fault fault.Memory) = refl
fault_listed list.NoMessages = refl

-- **A pull with lists happens where the pull does.**
pub listed_happens : (setup : Setup) (w new : World) (side : Side) (id : ℕ) (p : Pull) → Happens setup w (event.Pull side id) (answer.Pulled p) new
    → Happens setup w (event.PullFields side id) (answer.Listed (listed_pull (list_next setup w side id) p)) new
listed_happens setup w new side id p h =
    let is = pulls_listed setup w new side id p h.step in
    record {
      step = (subst (λ q. Pulls setup w side id q new) (sym is.stands) h.step, is.has);
      exact = subst (λ q. PausesExactly w side id q) (sym is.stands) h.exact;
      comes_out = subst (λ q. PullComesOut setup w side id q) (sym is.stands) h.comes_out;
      no_connection_fault =
          fault_listed (listed_pull (list_next setup w side id) p) ∙ ap (λ q. is_connection_fault (answer.Pulled q)) is.stands ∙ h.no_connection_fault;
      within_limits = h.within_limits;
    }
