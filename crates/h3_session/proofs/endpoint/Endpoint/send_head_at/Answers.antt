use Rattle.std.proofs.Common.{◌≡◌, ℕ, None, refl, ap, sym, ◌∙◌}
use Rattle.std.specs.Prelude.{unwrap_or}
use Rattle.h3_connection.specs.Refusals.{or_later}
use Rattle.h3_connection.specs.State.{EndpointState}
use Rattle.h3_connection.specs.declared.event.Refusal.{Refusal}
use Rattle.h3_connection.specs.declared.event.Refusal.TheVariants as refusal
use Rattle.h3_connection.specs.Pulling.{is_interim}
use Rattle.h3_session.specs.Refused.{head_refused_in}
use Rattle.h3_session.specs.SendingFields.{asking}
use Rattle.h3_session.proofs.InvalidFields.{head_judged_names, section_names}
use Rattle.h3_session.proofs.Remembering.{before_trailer}
use Rattle.h3_session.proofs.SendingHeads.{head_judged, head_sent_judged}
use Rattle.h3_session.proofs.SendingRefusals.{none_later}
use Rattle.h3_session.proofs.SentAnswers.{read_alike}
use Rattle.h3_session.proofs.endpoint.Endpoint.send_head_at.Goals as goal

why_of : (s : EndpointState) (id : ℕ) (r : Refusal) → r ≡ unwrap_or (head_refused_in s id) refusal.OutOfMemory → r ≡ unwrap_or (or_later (head_refused_in s id) None) refusal.OutOfMemory
why_of s id r why = why ∙ ap (λ o. unwrap_or o refusal.OutOfMemory) (sym (none_later (head_refused_in s id)))

pub returns-in-Err-clause-sends : goal.returns-in-Err-clause-sends
returns-in-Err-clause-sends c = λ head sent at.
    head_judged c.args.self.now c.reserve_head.new.self c.args.id head c.args.fields.now c.args.place c.in-Err.refusal c.judged_or.result c.requires.open sent at
    c.reserve_head.ensures.rest c.reserve_head.ensures.same (why_of c.args.self.now c.args.id c.in-Err.refusal c.in-Err.ensures.why) c.judged_or.ensures

pub returns-in-Err-clause-names : goal.returns-in-Err-clause-names
returns-in-Err-clause-names c = λ head reads behind.
    head_judged_names c.args.self.now c.reserve_head.new.self c.args.fields.now c.args.place c.reserve_head.ensures.rest head reads c.args.id c.in-Err.refusal c.judged_or.result (why_of c.args.self.now c.args.id c.in-Err.refusal c.in-Err.ensures.why) c.judged_or.ensures

pub returns-clause-sends : goal.returns-clause-sends
returns-clause-sends c = λ head sent at.
    head_sent_judged c.args.self.now c.reserve_head.new.self c.send_head_section.new.self c.args.id head None c.args.fields.now c.args.fields.now c.args.place c.send_head_section.result c.requires.open (sym sent)
    c.reserve_head.ensures.rest c.reserve_head.ensures.same (none_later (head_refused_in c.args.self.now c.args.id) ∙ c.in-Ok.ensures.taken) refl at ((rw c.in-Ok.ensures.room at c.send_head_section.ensures) (before_trailer (is_interim head.status) c.args.place at))

pub returns-clause-names : goal.returns-clause-names
returns-clause-names c = λ head reads behind.
    section_names c.args.self.now c.reserve_head.new.self c.args.fields.now c.args.place c.reserve_head.ensures.rest head reads (asking c.in-Ok.room c.args.fields.now) c.send_head_section.new.self c.in-Ok.room _
    (c.send_head_section.ensures behind)

pub judged_or-requires : goal.judged_or-requires
judged_or-requires c = read_alike c.args.place c.args.self.now c.reserve_head.new.self c.args.fields.now c.args.read.now c.reserve_head.ensures.rest c.requires.read

pub send_head_section-requires : goal.send_head_section-requires
send_head_section-requires c = read_alike c.args.place c.args.self.now c.reserve_head.new.self c.args.fields.now c.args.read.now c.reserve_head.ensures.rest c.requires.read
