-- What the sending of a section comes to: it was refused by its list, or its frame waits and it is counted.
use Rattle.std.proofs.Common.{◌≡◌, ℕ, ◌+◌, List, Option, Some, None, refl, ap, sym, subst, ◌∙◌}
use Rattle.std.specs.Prelude.{◌≢◌, unwrap_or}
use Rattle.h3_field.specs.Field.{Field}
use Rattle.h3_connection.specs.Sending.{appended, counted, encoded, fields_cost}
use Rattle.h3_connection.specs.Remembering.{settings_known}
use Rattle.h3_connection.specs.State.{EndpointState, StandsFor}
use Rattle.h3_connection.specs.declared.event.Malformation.{Malformation}
use Rattle.h3_connection.specs.declared.event.Refusal.{Refusal}
use Rattle.h3_connection.specs.declared.event.Refusal.TheVariants as refusal
use Rattle.h3_connection.specs.declared.place.SendPlace.{SendPlace}
use Rattle.h3_session.specs.Refused.{broken_behind, list_refused, refused_behind, size_refused}
use Rattle.h3_session.specs.SendingFields.{IsJudged, Queues, SendsFields}
use Rattle.h3_session.proofs.SendingSections.{not_begun}
use Rattle.h3_session.proofs.SendingStands.{counted_stands}

pub section_refused : (s : EndpointState) (id : ℕ) (fields : List Field) (place : SendPlace) (r : Refusal) → (r ≡ refusal.OutOfMemory → broken_behind place s id fields ≡ None)
    → (r ≢ refusal.OutOfMemory → refused_behind s id place fields ≡ Some r) → SendsFields (λ e. e) s s id fields place (Some r)
section_refused s id fields place r unbroken refused = record {
  done = λ never. absurd (cc);
  list = λ differs. sym (refused (λ is. differs (ap Some is)));
  same = λ _ _. refl;
  memory = λ _ e h. not_begun s e id fields h;
  too_large = λ _ _. refl;
  unbroken = λ is. unbroken (ap (λ o. unwrap_or o r) is);
}

-- of a list that breaks no rule its size tells, and of another one the rule
pub of_size : (s : EndpointState) (id : ℕ) (place : SendPlace) (fields : List Field) (told : Option Refusal) → broken_behind place s id fields ≡ None → size_refused (settings_known s.announced s.peer.settings) fields ≡ told
    → refused_behind s id place fields ≡ told
of_size s id place fields told kept sized = ap (λ broken. list_refused broken (settings_known s.announced s.peer.settings) fields) kept ∙ sized

pub section_malformed : (s : EndpointState) (id : ℕ) (fields : List Field) (place : SendPlace) (why : Malformation) → broken_behind place s id fields ≡ Some why
    → SendsFields (λ e. e) s s id fields place (Some (refusal.Malformed why))
section_malformed s id fields place why broken =
    section_refused s id fields place (refusal.Malformed why) (λ never. absurd (cc)) (λ _. ap (λ rule. list_refused rule (settings_known s.announced s.peer.settings) fields) broken)

pub section_sent : (s mid now : EndpointState) (id : ℕ) (fields : List Field) (place : SendPlace) (sum : ℕ) → now ≡ mid → IsJudged s fields sum
    → refused_behind s id place fields ≡ None → Queues s mid id fields place → SendsFields (λ e. e) s (record now { sent = sum }) id fields place None
section_sent s mid now id fields place sum is judged fits queued =
    let total : mid.sent + fields_cost fields + 64 ≡ sum = ap (λ n. n + fields_cost fields + 64) queued.sent ∙ sym judged.sum_is in
    subst (λ v. SendsFields (λ e. e) s (record v { sent = sum }) id fields place None) (sym is) (record {
      done = λ _ e part h p. subst (λ n. StandsFor (record mid { sent = n }) (counted (appended (encoded e id fields) id part) (fields_cost fields))) total
          (counted_stands mid (appended (encoded e id fields) id part) (fields_cost fields) (queued.stands e part h p));
      list = λ _. sym fits;
      same = λ differs. absurd (differs refl);
      memory = λ never. absurd (cc);
      too_large = λ never. absurd (cc);
      unbroken = λ never. absurd (cc);
    })
