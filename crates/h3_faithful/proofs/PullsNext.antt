-- A pull of an end that keeps something is that of the same end once it has read all of it, unless its answer is settled.
use Rattle.std.proofs.Common.{◌≡◌, ℕ, true, false, List, [], ◌∷◌, refl, sym, ap, ◌∙◌, if◌then◌else◌, None}
use Rattle.std.specs.Prelude.{◌||◌}
use Rattle.h3_proto.specs.declared.stream.Side.{Side}
use Rattle.h3_connection.specs.Coming.{fields_behind, fields_item}
use Rattle.h3_connection.specs.Control.{Found}
use Rattle.h3_connection.specs.Endpoint.{EndpointHistory, kind_of}
use Rattle.h3_connection.specs.Keeping.{pulled_after, pulls, pulls_behind, read_all, settles, unkept}
use Rattle.h3_connection.specs.Sending.{pull_at, pull_unless}
use Rattle.h3_connection.specs.declared.arrival.Arrival.{Arrival}
use Rattle.h3_connection.specs.declared.event.Pull.{Pull}
use Rattle.h3_connection.specs.Lists.{listed_pull}
use Rattle.h3_world.specs.Ends.{Ends, answered, end_at, with_end}
use Rattle.h3_world.specs.declared.event.Answer.{Answer}
use Rattle.h3_world.specs.declared.event.Answer.TheVariants as answer
use Rattle.h3_world.specs.declared.event.Event.TheVariants as event
use Rattle.h3_strict.specs.Plainly.{exceeds, is_judged, judged_open}
use Rattle.h3_faithful.proofs.AnyPull.{end_set, listed_is, pulled_is, reads_none, set_twice}

-- a settled one
pub pulls_settled : (e : EndpointHistory) (id : ℕ) → e.closed ≡ None → settles e id ≡ true → pulls e id ≡ pull_at e id (kind_of e.side id)
pulls_settled e id open_still settled = by_kept e.kept
  where
    later : Pull × EndpointHistory
    later = pull_at e id (kind_of e.side id)

    by_kept : (l : List Arrival) → pulls_behind l e id ≡ pull_at e id (kind_of e.side id)
    by_kept [] = ap (λ c. pull_unless c e (pull_at e id (kind_of e.side id))) open_still
    by_kept (k ∷ kept) = ap (λ c. pull_unless c e (if settles e id then pull_at e id (kind_of e.side id) else pulled_after (read_all (k ∷ kept) (unkept e)) id)) open_still
        ∙ ap (λ b. if b then pull_at e id (kind_of e.side id) else pulled_after (read_all (k ∷ kept) (unkept e)) id) settled

module _ (e next : EndpointHistory) (id : ℕ) (open_still : e.closed ≡ None) (open_then : next.closed ≡ None) (none : next.kept ≡ []) (reads : read_all e.kept (unkept e) ≡ (next, None)) (unsettled : settles e id ≡ false) where
  -- where nothing is kept it is the same end
  itself : e.kept ≡ [] → e ≡ next
  itself kept = ap (λ l. record e { kept = l }) kept ∙ sym (ap (λ l. (read_all l (unkept e)).0) kept) ∙ ap (λ (x : Found). x.0) reads

  pub pulls_next : pulls e id ≡ pulls next id
  pulls_next = by_kept e.kept refl
    where
      by_kept : (l : List Arrival) → e.kept ≡ l → pulls_behind l e id ≡ pulls next id
      by_kept [] is = ap (λ x. pulls_behind [] x id) (itself is) ∙ ap (λ l. pulls_behind l next id) (sym none)
      by_kept (k ∷ kept) is =
          ap (λ c. pull_unless c e (if settles e id then pull_at e id (kind_of e.side id) else pulled_after (read_all (k ∷ kept) (unkept e)) id)) open_still
          ∙ ap (λ b. if b then pull_at e id (kind_of e.side id) else pulled_after (read_all (k ∷ kept) (unkept e)) id) unsettled
          ∙ ap (λ x. pulled_after x id) (ap (λ l. read_all l (unkept e)) (sym is) ∙ reads)
          ∙ sym (ap (λ l. pulls_behind l next id) none ∙ ap (λ c. pull_unless c next (pull_at next id (kind_of next.side id))) open_then)

  pub fields_next : fields_behind e.kept e id ≡ fields_behind next.kept next id
  fields_next = by_kept e.kept refl
    where
      by_kept : (l : List Arrival) → e.kept ≡ l → fields_behind l e id ≡ fields_behind next.kept next id
      by_kept [] is = ap (λ x. fields_behind [] x id) (itself is) ∙ ap (λ l. fields_behind l next id) (sym none)
      by_kept (k ∷ kept) is =
          ap (λ b. if b then fields_item e id else fields_item (read_all (k ∷ kept) (unkept e)).0 id) unsettled ∙ ap (λ (x : Found). fields_item x.0 id) (ap (λ l. read_all l (unkept e)) (sym is) ∙ reads)
          ∙ ap (λ l. fields_behind l next id) (sym none)

  pub judged_next : is_judged e id ≡ is_judged next id
  judged_next =
      ap (λ (x : Found). exceeds e x.1 || judged_open e.closed x.0 id) reads ∙ ap (λ c. judged_open c next id) (open_still ∙ sym open_then)
      ∙ sym (ap (λ (x : Found). exceeds next x.1 || judged_open next.closed x.0 id) (reads_none next none))

-- so are both ends after it
module _ (ends : Ends) (side : Side) (next : EndpointHistory) (id : ℕ) (open_still : (end_at ends side).closed ≡ None) (open_then : next.closed ≡ None) (none : next.kept ≡ []) (reads : read_all (end_at ends side).kept (unkept (end_at ends side)) ≡ (next, None))
    (unsettled : settles (end_at ends side) id ≡ false) where
  abbrev then_ends : Ends
  then_ends = with_end ends side next

  pub pull_next : answered (with_end ends side next) (event.Pull side id) ≡ answered ends (event.Pull side id)
  pull_next =
      pulled_is then_ends side (pulls (end_at then_ends side) id) ∙ ap (λ z. let x : Answer × Ends = (answer.Pulled (pulls z id).0, with_end then_ends side (pulls z id).1) in x) (end_set ends side next)
      ∙ ap (λ z. let x : Answer × Ends = (answer.Pulled (pulls next id).0, z) in x) (set_twice ends side next (pulls next id).1)
      ∙ ap (λ z. let x : Answer × Ends = (answer.Pulled z.0, with_end ends side z.1) in x) (sym (pulls_next (end_at ends side) next id open_still open_then none reads unsettled))
      ∙ sym (pulled_is ends side (pulls (end_at ends side) id))

  pub list_next : answered (with_end ends side next) (event.PullFields side id) ≡ answered ends (event.PullFields side id)
  list_next =
      listed_is then_ends side id (pulls (end_at then_ends side) id)
      ∙ ap (λ z. let x : Answer × Ends = (answer.Listed (listed_pull (fields_behind z.kept z id) (pulls z id).0), with_end then_ends side (pulls z id).1) in x) (end_set ends side next)
      ∙ ap (λ z. let x : Answer × Ends = (answer.Listed (listed_pull (fields_behind next.kept next id) (pulls next id).0), z) in x) (set_twice ends side next (pulls next id).1)
      ∙ ap (λ z. let x : Answer × Ends = (answer.Listed (listed_pull (fields_behind next.kept next id) z.0), with_end ends side z.1) in x) (sym (pulls_next (end_at ends side) next id open_still open_then none reads unsettled))
      ∙ ap (λ l. let x : Answer × Ends = (answer.Listed (listed_pull l (pulls (end_at ends side) id).0), with_end ends side (pulls (end_at ends side) id).1) in x) (sym (fields_next (end_at ends side) next id open_still open_then none reads unsettled))
      ∙ sym (listed_is ends side id (pulls (end_at ends side) id))
