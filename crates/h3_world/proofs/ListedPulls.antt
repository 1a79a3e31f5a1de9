-- What the machine answers to a pull with lists is a step that is allowed, and exact.
use Rattle.std.proofs.Common.{◌≡◌, ℕ, Bool, true, false, List, refl, sym, ap, subst, nat_lt, if◌then◌else◌, Option, Some, None}
use Rattle.std.specs.Prelude.{◌==◌, IfSome, option_map}
use Rattle.h3_field.specs.Field.{Field, section_size}
use Rattle.h3_header.specs.Head.{Head as Fields}
use Rattle.h3_header.specs.Reads.{head_of_fields}
use Rattle.h3_proto.specs.declared.stream.Side.{Side}
use Rattle.h3_connection.specs.Announcing.{section_of}
use Rattle.h3_connection.specs.OwnIds.{other}
use Rattle.h3_connection.specs.declared.event.Item.{Item}
use Rattle.h3_connection.specs.declared.event.Item.TheVariants as item
use Rattle.h3_connection.specs.declared.event.Pull.{Pull}
use Rattle.h3_connection.specs.declared.event.Pull.TheVariants as pull
use Rattle.h3_connection.specs.Lists.{IsListedAs}
use Rattle.h3_world.specs.declared.event.Event.TheVariants as event
use Rattle.h3_world.specs.declared.event.Answer.{Answer}
use Rattle.h3_world.specs.declared.event.Answer.TheVariants as answer
use Rattle.h3_world.specs.Came.{insertions_came}
use Rattle.h3_world.specs.Flow.{Flow, Part, Section}
use Rattle.h3_world.specs.Flow.Part.{Interim, Head, Body, Trailer, End}
use Rattle.h3_world.specs.Items.{body_there}
use Rattle.h3_world.specs.ListLaws.{read_flagged, settled_listed}
use Rattle.h3_world.specs.Lists.{as_flagged}
use Rattle.h3_world.specs.Machine.{item_there, listed, pull_next, pull_settled, pulled, section_item}
use Rattle.h3_world.specs.Order.{next_part, section_of_part}
use Rattle.h3_world.specs.Pauses.{pause_before, section_pause}
use Rattle.h3_world.specs.Pulling.{PausesExactly, Pulls, list_next, settled}
use Rattle.h3_world.specs.Setup.{Setup, announced_at, flags_secrets}
use Rattle.h3_world.specs.Step.{IsExact, Step}
use Rattle.h3_world.specs.Streams.{flow}
use Rattle.h3_world.specs.World.{World, party}

abbrev pub IsListedAnswer : Option (List Field) → Answer → Type 0
IsListedAnswer fields (answer.Pulled p) = IsListedAs fields p
IsListedAnswer fields _ = ⊥

section_listed : (guards : Bool) (s : Section) (kind : Fields → Item) (most : ℕ)
    → ((fields : List Field) → head_of_fields fields ≡ head_of_fields s.fields → IsListedAs (Some fields) (pull.Item (kind (head_of_fields s.fields))))
    → IsListedAs (Some (as_flagged guards s.fields)) (pull.Item (section_item kind most s.fields))
section_listed guards s kind most whole = by_test (nat_lt most (section_size s.fields))
  where
    by_test : (b : Bool) → IsListedAs (Some (as_flagged guards s.fields)) (pull.Item (if b then item.TooLarge (section_size s.fields) else kind (head_of_fields s.fields)))
    by_test true = record { stands = refl; has = tt }
    by_test false = whole (as_flagged guards s.fields) (read_flagged guards s.fields)

item_listed : (guards : Bool) (most : ℕ) (f : Flow) (part : Option Part) → IsListedAs (option_map (λ s. as_flagged guards s.fields) (section_of_part part)) (pull.Item (item_there most f part))
item_listed guards most f None = record { stands = refl; has = tt }
item_listed guards most f (Some (Interim s)) = section_listed guards s item.Interim most (λ fields e. record { stands = ap (λ h. pull.Item (item.Interim h)) e; has = refl })
item_listed guards most f (Some (Head s)) = section_listed guards s item.Head most (λ fields e. record { stands = ap (λ h. pull.Item (item.Head h)) e; has = refl })
item_listed guards most f (Some (Trailer s)) = section_listed guards s item.Trailer most (λ fields e. record { stands = ap (λ h. pull.Item (item.Trailer h)) e; has = refl })
item_listed guards most f (Some (Body bytes own)) = record { stands = refl; has = tt }
item_listed guards most f (Some End) = record { stands = refl; has = tt }

-- a pause has no header
section_pause_listed : (fields : Option (List Field)) (f : Flow) (came : ℕ) (s : Section) → IfSome (section_pause f came s) (IsListedAs fields)
section_pause_listed fields f came s = by_tests (nat_lt f.delivered s.own_length) (nat_lt came s.count)
  where
    by_tests : (a b : Bool) → IfSome (let o : Option Pull = if a then Some pull.Pending else (if b then Some (pull.Waiting s.count) else None) in o) (IsListedAs fields)
    by_tests true b = record { stands = refl; has = tt }
    by_tests false true = record { stands = refl; has = tt }
    by_tests false false = tt

pause_listed : (fields : Option (List Field)) (f : Flow) (came : ℕ) (part : Option Part) → IfSome (pause_before f came part) (IsListedAs fields)
pause_listed fields f came None = record { stands = refl; has = tt }
pause_listed fields f came (Some (Interim s)) = section_pause_listed fields f came s
pause_listed fields f came (Some (Head s)) = section_pause_listed fields f came s
pause_listed fields f came (Some (Trailer s)) = section_pause_listed fields f came s
pause_listed fields f came (Some (Body bytes own)) = by_test (body_there f bytes own == 0)
  where
    by_test : (b : Bool) → IfSome (let o : Option Pull = if b then Some pull.Pending else None in o) (IsListedAs fields)
    by_test true = record { stands = refl; has = tt }
    by_test false = tt
pause_listed fields f came (Some End) = by_test f.ended
  where
    by_test : (b : Bool) → IfSome (let o : Option Pull = if b then None else Some pull.Pending in o) (IsListedAs fields)
    by_test true = tt
    by_test false = record { stands = refl; has = tt }

pulled_listed : (setup : Setup) (w : World) (side : Side) (id : ℕ) → IsListedAnswer (list_next setup w side id) (pulled setup w side id).0
pulled_listed setup w side id = by_settled (settled w side id) (settled_listed fields w side id)
  where
    fields : Option (List Field)
    fields = list_next setup w side id

    f : Flow
    f = flow w (other side) id

    i : Item
    i = item_there (section_of (announced_at setup side)) f (next_part f)

    pause : Option Pull
    pause = pause_before f (insertions_came (party w (other side))) (next_part f)

    by_pause : (o : Option Pull) → IfSome o (IsListedAs fields) → IsListedAnswer fields (pull_next w side id o i).0
    by_pause None none = item_listed (flags_secrets (announced_at setup (other side))) (section_of (announced_at setup side)) f (next_part f)
    by_pause (Some p) is = is

    by_settled : (o : Option Pull) → IfSome o (IsListedAs fields) → IsListedAnswer fields (pull_settled w o (pull_next w side id pause i)).0
    by_settled None none = by_pause pause (pause_listed fields f (insertions_came (party w (other side))) (next_part f))
    by_settled (Some p) is = is

-- **A pull that is allowed and exact is so with lists.**
pub listed_is_exact : (setup : Setup) (w : World) (side : Side) (id : ℕ)
    → Step setup w (event.Pull side id) (pulled setup w side id).0 (pulled setup w side id).1 × IsExact w (event.Pull side id) (pulled setup w side id).0
    → Step setup w (event.PullFields side id) (listed (list_next setup w side id) (pulled setup w side id).0) (pulled setup w side id).1
    × IsExact w (event.PullFields side id) (listed (list_next setup w side id) (pulled setup w side id).0)
listed_is_exact setup w side id step = by_answer (pulled setup w side id).0 (pulled_listed setup w side id) step
  where
    new : World
    new = (pulled setup w side id).1

    fields : Option (List Field)
    fields = list_next setup w side id

    by_answer : (a : Answer) → IsListedAnswer fields a → Step setup w (event.Pull side id) a new × IsExact w (event.Pull side id) a
        → Step setup w (event.PullFields side id) (listed fields a) new × IsExact w (event.PullFields side id) (listed fields a)
    by_answer (answer.Pulled p) is step =
        ((subst (λ q. Pulls setup w side id q new) (sym is.stands) step.0, is.has), subst (λ q. PausesExactly w side id q) (sym is.stands) step.1)
    by_answer (answer.Listed l) is step = absurd is
    by_answer (answer.Opened n) is step = absurd is
    by_answer answer.Done is step = absurd is
    by_answer (answer.Delivered n) is step = absurd is
    by_answer (answer.Short n) is step = absurd is
    by_answer answer.NoStream is step = absurd is
    by_answer answer.Early is step = absurd is
    by_answer (answer.Shown limits sizes n) is step = absurd is
    by_answer (answer.Refused r) is step = absurd is
