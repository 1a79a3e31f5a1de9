-- Streams that stand in two lists, of which the first counts.
use Rattle.std.proofs.Common.{◌≡◌, ℕ, List, [], ◌∷◌, ◌++◌, length, Option, Some, None, true, false, Bool, cond, refl, ap, sym, subst, ◌∙◌}
use Rattle.std.specs.Prelude.{unwrap_or, IfNone, is_some, OnErr, Result, Ok, Err}
use Rattle.std.specs.List.{concat}
use Rattle.h3_connection.specs.Keeping.{is_settled_peer, is_settled_session}
use Rattle.std.specs.BTreeMap.{is_at}
use Rattle.std.specs.Option.{option_or}
use Rattle.std.specs.Ordering.{nat_cmp}
use Rattle.h3_connection.specs.Calls.{Sets, AllSame}
use Rattle.h3_connection.specs.State.{kept_at}
use Rattle.h3_connection.specs.StreamSets.{Streams}
use Rattle.h3_connection.specs.Unidirectional.{StreamKinds, Unidirectional, Role, untold, is_critical, role_after, with_bytes, pull_unidirectional}
use Rattle.h3_connection.specs.Unread.{held_of_role}
use Rattle.h3_connection.specs.declared.event.Pull.{Pull}
use Rattle.h3_connection.specs.declared.event.Pull.TheVariants.{NoMessages}
use Rattle.h3_unidirectional.specs.Kinds.{plain, received_by, TellsFirst}
use Rattle.h3_unidirectional.specs.Told.{kind_in}
use Rattle.h3_unidirectional.specs.declared.plain.PlainRole.{PlainRole}
use Rattle.h3_unidirectional.specs.declared.plain.PlainRole.TheVariants as plain_role
use Rattle.h3_unidirectional.specs.declared.stream.Received.{Received}
use Rattle.h3_streams.specs.Placed.{peer_stream, closed_by, Pulls, Receives, Closes}
use Rattle.h3_streams.specs.Plain.{IsPlain}

pub joined : (xs ys : Streams Unidirectional) (id : ℕ) → kept_at (xs ++ ys) id ≡ option_or (kept_at xs id) (kept_at ys id)
joined [] ys id = refl
joined ((q, x) ∷ xs) ys id = by_test (is_at (nat_cmp id) q) (joined xs ys id)
  where
    by_test : (b : Bool) → kept_at (xs ++ ys) id ≡ option_or (kept_at xs id) (kept_at ys id) → cond b (Some x) (kept_at (xs ++ ys) id) ≡ option_or (cond b (Some x) (kept_at xs id)) (kept_at ys id)
    by_test true later = refl
    by_test false later = later

-- where the first has none
pub in_second : (xs ys : Streams Unidirectional) (id : ℕ) → kept_at xs id ≡ None → kept_at (xs ++ ys) id ≡ kept_at ys id
in_second xs ys id none = joined xs ys id ∙ ap (λ o. option_or o (kept_at ys id)) none

pub in_first : (xs ys : Streams Unidirectional) (id : ℕ) (x : Unidirectional) → kept_at xs id ≡ Some x → kept_at (xs ++ ys) id ≡ Some x
in_first xs ys id x some = joined xs ys id ∙ ap (λ o. option_or o (kept_at ys id)) some

same_first : (xs zs ys ws : Streams Unidirectional) (q : ℕ) → kept_at zs q ≡ kept_at xs q → kept_at ws q ≡ kept_at ys q → kept_at (zs ++ ws) q ≡ kept_at (xs ++ ys) q
same_first xs zs ys ws q first second = joined zs ws q ∙ ap (λ o. option_or o (kept_at ws q)) first ∙ ap (λ o. option_or (kept_at xs q) o) second ∙ sym (joined xs ys q)

pub all_same : (xs zs ys ws : Streams Unidirectional) → AllSame xs zs → AllSame ys ws → AllSame (xs ++ ys) (zs ++ ws)
all_same xs zs ys ws first second = record { each = λ q. same_first xs zs ys ws q (first.each q) (second.each q) }

pub sets_first : (xs zs ys : Streams Unidirectional) (id : ℕ) (x : Unidirectional) → Sets xs zs id x → Sets (xs ++ ys) (zs ++ ys) id x
sets_first xs zs ys id x sets = record { here = in_first zs ys id x sets.here; others = λ q ne. same_first xs zs ys ys q (sets.others q ne) refl }

pub sets_second : (xs zs ys ws : Streams Unidirectional) (id : ℕ) (x : Unidirectional) → AllSame xs zs → kept_at xs id ≡ None → Sets ys ws id x → Sets (xs ++ ys) (zs ++ ws) id x
sets_second xs zs ys ws id x same none sets =
    record { here = in_second zs ws id (same.each id ∙ none) ∙ sets.here; others = λ q ne. same_first xs zs ys ws q (same.each q) (sets.others q ne) }

-- what is done to one of the lists
pub receives : (sessions : StreamKinds) (old new part later : Streams Unidirectional) (id : ℕ) (bytes : List ℕ) (received : Received) → peer_stream old id ≡ peer_stream part id → ((x : Unidirectional) → Sets part later id x → Sets old new id x)
    → Receives sessions part later id bytes received → Receives sessions old new id bytes received
receives sessions old new part later id bytes received is lift r =
    record {
      sets = subst (λ (o : Unidirectional). Sets old new id (with_bytes o (role_after sessions o.role bytes))) (sym is) (lift _ r.sets);
      given = subst (λ (o : Unidirectional). received ≡ received_by (role_after sessions o.role bytes)) (sym is) r.given;
      front = λ role rest told tells.
          subst (λ (o : Unidirectional). TellsFirst sessions o.role bytes role rest) (sym is) (r.front role rest told (subst (λ (o : Unidirectional). role_after sessions o.role bytes ≡ (role, rest)) is tells));
    }

pub closes : (old new part later : Streams Unidirectional) (id : ℕ) (code : Option ℕ) (critical : Bool) → peer_stream old id ≡ peer_stream part id → ((x : Unidirectional) → Sets part later id x → Sets old new id x)
    → Closes part later id code critical → Closes old new id code critical
closes old new part later id code critical is lift c =
    record {
      sets = subst (λ (o : Unidirectional). Sets old new id (closed_by o code)) (sym is) (lift _ c.sets);
      critical_is = subst (λ (o : Unidirectional). critical ≡ is_critical o.role) (sym is) c.critical_is;
    }

pub pulls : (old new part later : Streams Unidirectional) (id : ℕ) (given : Pull) → kept_at old id ≡ kept_at part id → (later ≡ part → new ≡ old) → ((x : Unidirectional) → Sets part later id x → Sets old new id x)
    → Pulls (kept_at part id) given part later id → Pulls (kept_at old id) given old new id
pulls old new part later id given is same lift p = subst (λ o. Pulls o given old new id) (sym is) (by_stream (kept_at part id) p)
  where
    by_stream : (o : Option Unidirectional) → Pulls o given part later id → Pulls o given old new id
    by_stream None h = (h.0, same h.1)
    by_stream (Some o) h = (h.0, lift _ h.1)

-- A stream of which nothing but its role is kept.
some_plain : (role : PlainRole) (o : Option Unidirectional) → IsPlain role o → (x : Unidirectional) × (o ≡ Some x) × (x.role ≡ plain role) × (x.unread ≡ [])
some_plain role None h = absurd h
some_plain role (Some x) h = (x, refl, h.0, h.1)

plain_first : (xs ys : Streams Unidirectional) (id : ℕ) (role : PlainRole) → IsPlain role (kept_at xs id) → kept_at (xs ++ ys) id ≡ kept_at xs id
plain_first xs ys id role h = let p = some_plain role (kept_at xs id) h in in_first xs ys id p.0 p.1 ∙ sym p.1

pub plain_there : (xs ys : Streams Unidirectional) (id : ℕ) (role : PlainRole) → IsPlain role (kept_at xs id) → IsPlain role (kept_at (xs ++ ys) id)
plain_there xs ys id role h = subst (IsPlain role) (sym (plain_first xs ys id role h)) h

pub stream_first : (xs ys : Streams Unidirectional) (id : ℕ) (role : PlainRole) → IsPlain role (kept_at xs id) → peer_stream (xs ++ ys) id ≡ peer_stream xs id
stream_first xs ys id role h = ap (λ o. unwrap_or o untold) (plain_first xs ys id role h)

pub stream_second : (xs ys : Streams Unidirectional) (id : ℕ) → kept_at xs id ≡ None → peer_stream (xs ++ ys) id ≡ peer_stream ys id
stream_second xs ys id none = ap (λ o. unwrap_or o untold) (in_second xs ys id none)

unsettled : (role : PlainRole) (o : Option Unidirectional) → IsPlain role o → is_settled_peer o ≡ false
unsettled role None h = absurd h
unsettled role (Some x) h = ap (λ r. is_settled_session x r) h.0 ∙ by_role role
  where
    by_role : (p : PlainRole) → is_settled_session x (plain p) ≡ false
    by_role plain_role.Control = refl
    by_role plain_role.Encoder = refl
    by_role plain_role.Decoder = refl
    by_role plain_role.Ignored = refl

pub plain_unsettled : (xs ys : Streams Unidirectional) (id : ℕ) (role : PlainRole) → IsPlain role (kept_at xs id) → is_settled_peer (kept_at (xs ++ ys) id) ≡ false
plain_unsettled xs ys id role h = unsettled role (kept_at (xs ++ ys) id) (plain_there xs ys id role h)

pub plain_kind : (xs ys : Streams Unidirectional) (id : ℕ) (role : PlainRole) → IsPlain role (kept_at xs id) → kind_in (peer_stream (xs ++ ys) id).role ≡ kind_in (plain role)
plain_kind xs ys id role h =
    let p = some_plain role (kept_at xs id) h in
    ap (λ (o : Unidirectional). kind_in o.role) (stream_first xs ys id role h ∙ ap (λ o. unwrap_or o untold) p.1) ∙ ap kind_in p.2

pub nothing_unread : (xs ys : Streams Unidirectional) (id : ℕ) (role : PlainRole) → IsPlain role (kept_at xs id) → 0 ≡ length (concat (peer_stream (xs ++ ys) id).unread)
nothing_unread xs ys id role h =
    let p = some_plain role (kept_at xs id) h in
    sym (ap (λ (o : Unidirectional). length (concat o.unread)) (stream_first xs ys id role h ∙ ap (λ o. unwrap_or o untold) p.1) ∙ ap (λ l. length (concat l)) p.3)

plain_holds : (x : Unidirectional) (role : PlainRole) → held_of_role x (plain role) ≡ 0
plain_holds x plain_role.Control = refl
plain_holds x plain_role.Encoder = refl
plain_holds x plain_role.Decoder = refl
plain_holds x plain_role.Ignored = refl

pub nothing_held : (xs ys : Streams Unidirectional) (id : ℕ) (role : PlainRole) → IsPlain role (kept_at xs id) → 0 ≡ held_of_role (peer_stream (xs ++ ys) id) (peer_stream (xs ++ ys) id).role
nothing_held xs ys id role h =
    let p = some_plain role (kept_at xs id) h in
    sym (ap (λ (o : Unidirectional). held_of_role o o.role) (stream_first xs ys id role h ∙ ap (λ o. unwrap_or o untold) p.1) ∙ ap (held_of_role p.0) p.2 ∙ plain_holds p.0 role)

plain_pull : (x : Unidirectional) (role : PlainRole) → pull_unidirectional x (plain role) ≡ (NoMessages, x)
plain_pull x plain_role.Control = refl
plain_pull x plain_role.Encoder = refl
plain_pull x plain_role.Decoder = refl
plain_pull x plain_role.Ignored = refl

plain_after : (sessions : StreamKinds) (role : PlainRole) (bytes : List ℕ) → role_after sessions (plain role) bytes ≡ (plain role, bytes)
plain_after sessions plain_role.Control bytes = refl
plain_after sessions plain_role.Encoder bytes = refl
plain_after sessions plain_role.Decoder bytes = refl
plain_after sessions plain_role.Ignored bytes = refl

plain_kept : (x : Unidirectional) (role : PlainRole) (bytes : List ℕ) → x.role ≡ plain role → with_bytes x (plain role, bytes) ≡ x
plain_kept x plain_role.Control bytes is = ap (λ r. record x { role = r }) (sym is)
plain_kept x plain_role.Encoder bytes is = ap (λ r. record x { role = r }) (sym is)
plain_kept x plain_role.Decoder bytes is = ap (λ r. record x { role = r }) (sym is)
plain_kept x plain_role.Ignored bytes is = ap (λ r. record x { role = r }) (sym is)

itself : (streams : Streams Unidirectional) (id : ℕ) (x : Unidirectional) → kept_at streams id ≡ Some x → Sets streams streams id x
itself streams id x is = record { here = is; others = λ q ne. refl }

pub pulls_plain : (streams : Streams Unidirectional) (id : ℕ) (role : PlainRole) → IsPlain role (kept_at streams id) → Pulls (kept_at streams id) NoMessages streams streams id
pulls_plain streams id role h =
    let p = some_plain role (kept_at streams id) h in
    let x = p.0 in
    let is : pull_unidirectional x x.role ≡ (NoMessages, x) = ap (λ r. pull_unidirectional x r) p.2 ∙ plain_pull x role in
    subst (λ o. Pulls o NoMessages streams streams id) (sym p.1)
    (ap (λ (a : Pull × Unidirectional). a.0) (sym is), subst (λ (a : Pull × Unidirectional). Sets streams streams id a.1) (sym is) (itself streams id x p.1))

told_stays : (sessions : StreamKinds) (role : PlainRole) (bytes : List ℕ) (r : Role) (rest : List ℕ) → role_after sessions (plain role) bytes ≡ (r, rest) → TellsFirst sessions (plain role) bytes r rest
told_stays sessions role bytes r rest h =
    let e : ◌≡◌ {A = Role × List ℕ} (plain role, bytes) (r, rest) = sym (plain_after sessions role bytes) ∙ h in
    record { front = []; cut = ap (λ (p : Role × List ℕ). p.1) e; tells = plain_after sessions role [] ∙ ap (λ (p : Role × List ℕ). (p.0, [])) e }

pub receives_plain : (sessions : StreamKinds) (streams : Streams Unidirectional) (id : ℕ) (role : PlainRole) (bytes : List ℕ) (received : Received) → IsPlain role (kept_at streams id) → received ≡ received_by (plain role, bytes)
    → Receives sessions streams streams id bytes received
receives_plain sessions streams id role bytes received h is =
    let p = some_plain role (kept_at streams id) h in
    let x = p.0 in
    let there : peer_stream streams id ≡ x = ap (λ o. unwrap_or o untold) p.1 in
    let after : role_after sessions (peer_stream streams id).role bytes ≡ (plain role, bytes) = ap (λ (o : Unidirectional). role_after sessions o.role bytes) there ∙ ap (λ r. role_after sessions r bytes) p.2 ∙ plain_after sessions role bytes in
    record {
      sets = subst (λ o. Sets streams streams id o) (sym (ap (λ a. with_bytes (peer_stream streams id) a) after ∙ ap (λ o. with_bytes o (plain role, bytes)) there ∙ plain_kept x role bytes p.2)) (itself streams id x p.1);
      given = is ∙ ap received_by (sym after);
      front = λ r rest told tells.
          subst (λ was. TellsFirst sessions was bytes r rest) (sym (ap (λ (o : Unidirectional). o.role) there ∙ p.2)) (told_stays sessions role bytes r rest (ap (λ was. role_after sessions was bytes) (sym (ap (λ (o : Unidirectional). o.role) there ∙ p.2)) ∙ tells));
    }

pub same_itself : (streams : Streams Unidirectional) → AllSame streams streams
same_itself streams = record { each = λ q. refl }

-- bytes of a stream of the second list, while the first stays as it is
pub receives_second : (sessions : StreamKinds) (xs zs ys ws : Streams Unidirectional) (id : ℕ) (bytes : List ℕ) (received : Received) → AllSame xs zs → kept_at xs id ≡ None → Receives sessions ys ws id bytes received → Receives sessions (xs ++ ys) (zs ++ ws) id bytes received
receives_second sessions xs zs ys ws id bytes received same none r =
    receives sessions (xs ++ ys) (zs ++ ws) ys ws id bytes received (stream_second xs ys id none) (λ x. sets_second xs zs ys ws id x same none) r

-- of one that is in neither, and now in the first
pub receives_first : (sessions : StreamKinds) (xs zs ys : Streams Unidirectional) (id : ℕ) (bytes : List ℕ) (received : Received) → kept_at xs id ≡ None → kept_at ys id ≡ None → Receives sessions xs zs id bytes received → Receives sessions (xs ++ ys) (zs ++ ys) id bytes received
receives_first sessions xs zs ys id bytes received none absent r =
    let whole : peer_stream (xs ++ ys) id ≡ peer_stream xs id = ap (λ o. unwrap_or o untold) (in_second xs ys id none ∙ absent ∙ sym none) in
    receives sessions (xs ++ ys) (zs ++ ys) xs zs id bytes received whole (λ x. sets_first xs zs ys id x) r

pub closes_second : (xs ys ws : Streams Unidirectional) (id : ℕ) (code : Option ℕ) (critical : Bool) → kept_at xs id ≡ None → Closes ys ws id code critical → Closes (xs ++ ys) (xs ++ ws) id code critical
closes_second xs ys ws id code critical none c =
    closes (xs ++ ys) (xs ++ ws) ys ws id code critical (stream_second xs ys id none) (λ x. sets_second xs xs ys ws id x (same_itself xs) none) c

pub closes_first : (xs zs ys : Streams Unidirectional) (id : ℕ) (code : Option ℕ) (role : PlainRole) (critical : Bool) → IsPlain role (kept_at xs id) → critical ≡ is_critical (plain role)
    → Sets xs zs id (closed_by (peer_stream xs id) code) → Closes (xs ++ ys) (zs ++ ys) id code critical
closes_first xs zs ys id code role critical h is sets =
    let p = some_plain role (kept_at xs id) h in
    let there : peer_stream xs id ≡ p.0 = ap (λ o. unwrap_or o untold) p.1 in
    closes (xs ++ ys) (zs ++ ys) xs zs id code critical (stream_first xs ys id role h) (λ x. sets_first xs zs ys id x)
    (record { sets = sets; critical_is = is ∙ ap is_critical (sym p.2) ∙ ap (λ (o : Unidirectional). is_critical o.role) (sym there) })

pub pulls_second : (xs ys ws : Streams Unidirectional) (id : ℕ) (given : Pull) → kept_at xs id ≡ None → Pulls (kept_at ys id) given ys ws id → Pulls (kept_at (xs ++ ys) id) given (xs ++ ys) (xs ++ ws) id
pulls_second xs ys ws id given none p =
    pulls (xs ++ ys) (xs ++ ws) ys ws id given (in_second xs ys id none) (λ same. ap (λ l. xs ++ l) same) (λ x. sets_second xs xs ys ws id x (same_itself xs) none) p

pub absent : (o : Option Unidirectional) → is_some o ≡ false → o ≡ None
absent None e = refl
absent (Some x) e = absurd (cc)

pub on_err : {X E : Type 0} (r : Result X E) (P Q : Type 0) → (P → Q) → OnErr r P → OnErr r Q
on_err (Ok x) P Q goes h = h
on_err (Err e) P Q goes h = goes h

pub none_unsettled : {X : Type 0} (r : Option X) (o : Option Unidirectional) → IfNone r (o ≡ None) → IfNone r (is_settled_peer o ≡ false)
none_unsettled None o h = ap is_settled_peer h
none_unsettled (Some x) o h = h
