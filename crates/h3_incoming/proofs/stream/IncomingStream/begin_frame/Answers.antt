use Rattle.std.proofs.Common.{◌≡◌, length, ap, refl, rules, sym, subst, ◌∙◌}
use Rattle.std.specs.List.{concat}
use Rattle.h3_connection.specs.Incoming.{Incoming, is_body}
use Rattle.h3_connection.specs.StrictConnection.{kinds_of}
use Rattle.h3_incoming.specs.Beginning.{IsBegun}
use Rattle.h3_incoming.specs.Resuming.{Resumes}
use Rattle.h3_incoming.proofs.FrontLaws.{Reads}
use Rattle.h3_incoming.proofs.ListLaws.{next_framed}
use Rattle.h3_incoming.proofs.PullLaws.{gives_as, gives_just, pull_of_frame}
use Rattle.h3_incoming.proofs.PulledFrame.{pulled_excess, pulled_nothing, pulled_section, pulled_unfinished, waits_empty, pulled_refused, pulled_frame, session_told, gives_payload, resumes_before, resumes_behind, resumes_payload}
use Rattle.h3_incoming.proofs.ResumeLaws.{IsBetween, resumes_same}
use Rattle.h3_incoming.proofs.stream.IncomingStream.begin_frame.Goals as goal

pub returns-then-len-eq0-clause-answer : goal.returns-then-len-eq0-clause-answer
returns-then-len-eq0-clause-answer c = λ f h r.
    let none : length (concat c.self.inside.unread.pieces) ≡ 0 = search rules in
    let here : length (concat c.args.self.now.unread) ≡ 0 = subst (λ (i : Incoming). length (concat i.unread) ≡ 0) c.self.view_is none in
    gives_as _ _ _ _ _ _ (pulled_nothing c.args.side c.args.announced.now c.args.id r c.args.self.now c.args.self.now refl here)
    (c.pull_end.ensures.answer c.args.side c.args.announced.now r (waits_empty (kinds_of c.args.announced.now) _ here) h)

pub returns-then-len-eq0-clause-memory : goal.returns-then-len-eq0-clause-memory
returns-then-len-eq0-clause-memory c = λ f h.
    let same = c.pull_end.ensures.memory h in
    (resumes_same c.args.announced.now _ _ same.0, same.1)

pub returns-in-Err-clause-memory : goal.returns-in-Err-clause-memory
returns-in-Err-clause-memory c = λ f h.
    let between : IsBetween c.args.self.now = record { no_fault = c.requires.open; goes_on = c.requires.goes_on; message = c.requires.message; none = c.requires.none; closed = c.requires.closed; waits = c.requires.waits } in
    let reads : Reads c.args.self.now _ _ _ = record { is = c.self.view_is; body = ap {A = Incoming} (λ i. is_body i.place) c.self.view_is; rest = c.front.ensures.rest } in
    (resumes_before c.args.announced.now _ _ _ _ reads between c.in-Err.ensures.err, refl)

pub returns-in-Ok-Unfinished-clause-answer : goal.returns-in-Ok-Unfinished-clause-answer
returns-in-Ok-Unfinished-clause-answer c = λ f h r.
    let reads : Reads c.args.self.now _ _ _ = record { is = c.self.view_is; body = ap {A = Incoming} (λ i. is_body i.place) c.self.view_is; rest = c.front.ensures.rest } in
    let finds = rw c.in-Ok-Unfinished.field-0-is at c.in-Ok-Unfinished.ensures.finds in
    let small = rw c.in-Ok-Unfinished.field-0-is at c.in-Ok-Unfinished.ensures.within in
    gives_as _ _ _ _ _ _ (pulled_unfinished c.args.side c.args.announced.now c.args.id r _ _ _ _ reads finds small) (c.pull_end-in-Ok-Unfinished.ensures.answer c.args.side c.args.announced.now r finds.1 h)

pub returns-in-Ok-Unfinished-clause-memory : goal.returns-in-Ok-Unfinished-clause-memory
returns-in-Ok-Unfinished-clause-memory c = λ f h.
    let between : IsBetween c.args.self.now = record { no_fault = c.requires.open; goes_on = c.requires.goes_on; message = c.requires.message; none = c.requires.none; closed = c.requires.closed; waits = c.requires.waits } in
    let reads : Reads c.args.self.now _ _ _ = record { is = c.self.view_is; body = ap {A = Incoming} (λ i. is_body i.place) c.self.view_is; rest = c.front.ensures.rest } in
    let finds = rw c.in-Ok-Unfinished.field-0-is at c.in-Ok-Unfinished.ensures.finds in
    let small = rw c.in-Ok-Unfinished.field-0-is at c.in-Ok-Unfinished.ensures.within in
    let same = c.pull_end-in-Ok-Unfinished.ensures.memory h in
    (subst (λ x. Resumes c.args.announced.now c.args.self.now x) (sym same.0) (resumes_before c.args.announced.now _ _ _ _ reads between finds.2), same.1)

pub returns-in-Ok-Refused-clause-answer : goal.returns-in-Ok-Refused-clause-answer
returns-in-Ok-Refused-clause-answer c = λ f h r.
    let reads : Reads c.args.self.now _ _ _ = record { is = c.self.view_is; body = ap {A = Incoming} (λ i. is_body i.place) c.self.view_is; rest = c.front.ensures.rest } in
    let finds = rw c.in-Ok-Refused.field-0-is at c.in-Ok-Refused.ensures.finds in
    let small = rw c.in-Ok-Refused.field-0-is at c.in-Ok-Refused.ensures.within in
    rw c.fail-in-Ok-Refused.ensures
    (gives_just _ _ _ _ _ (pulled_refused c.args.side c.args.announced.now c.args.id r _ _ _ _ c.in-Ok-Refused.e _ reads finds small c.refused_code.ensures) refl)

pub returns-in-Payload-clause-answer : goal.returns-in-Payload-clause-answer
returns-in-Payload-clause-answer c = λ f h r.
    let reads : Reads c.args.self.now _ _ _ = record { is = c.self.view_is; body = ap {A = Incoming} (λ i. is_body i.place) c.self.view_is; rest = c.front.ensures.rest } in
    let found = rw c.in-Ok-Begun.field-0-is at c.in-Ok-Begun.ensures.finds in
    let begins = subst (λ b. IsBegun c.args.side c.self.inside.place c.self.inside.content found.0 b) c.in-Payload.is found.1 in
    let small = rw c.in-Ok-Begun.field-0-is at c.in-Ok-Begun.ensures.within in
    gives_payload c.args.side c.args.announced.now c.args.id r _ _ _ _ found.0 c.in-Payload.size c.left_behind-behind.result _ _ _ _ reads found.2 small
    (begins.is c.args.announced.now c.args.id r _ refl) c.left_behind-behind.ensures (c.pull_payload.ensures.answer h)

pub returns-in-Payload-clause-memory : goal.returns-in-Payload-clause-memory
returns-in-Payload-clause-memory c = λ f h.
    let between : IsBetween c.args.self.now = record { no_fault = c.requires.open; goes_on = c.requires.goes_on; message = c.requires.message; none = c.requires.none; closed = c.requires.closed; waits = c.requires.waits } in
    let reads : Reads c.args.self.now _ _ _ = record { is = c.self.view_is; body = ap {A = Incoming} (λ i. is_body i.place) c.self.view_is; rest = c.front.ensures.rest } in
    let found = rw c.in-Ok-Begun.field-0-is at c.in-Ok-Begun.ensures.finds in
    let begins = subst (λ b. IsBegun c.args.side c.self.inside.place c.self.inside.content found.0 b) c.in-Payload.is found.1 in
    let small = rw c.in-Ok-Begun.field-0-is at c.in-Ok-Begun.ensures.within in
    let same = c.pull_payload.ensures.memory h in
    (resumes_payload c.args.announced.now _ _ _ _ _ found.0 c.in-Payload.size c.left_behind-behind.result reads between found.2 small (begins.begins _) c.left_behind-behind.ensures same.0, same.1)

pub returns-in-Session-clause-answer : goal.returns-in-Session-clause-answer
returns-in-Session-clause-answer c = λ f h r.
    let reads : Reads c.args.self.now _ _ _ = record { is = c.self.view_is; body = ap {A = Incoming} (λ i. is_body i.place) c.self.view_is; rest = c.front.ensures.rest } in
    let found = rw c.in-Ok-Begun.field-0-is at c.in-Ok-Begun.ensures.finds in
    let begins = subst (λ b. IsBegun c.args.side c.self.inside.place c.self.inside.content found.0 b) c.in-Session.is found.1 in
    let small = rw c.in-Ok-Begun.field-0-is at c.in-Ok-Begun.ensures.within in
    gives_just _ _ _ _ _
    (pulled_frame c.args.side c.args.announced.now c.args.id r _ _ _ _ found.0 _ reads found.2 small (begins.is c.args.announced.now c.args.id r _ refl) ∙ session_told c.args.announced.now _ c.self.inside.place _ c.in-Session.session _ c.begin_session.ensures.is refl) refl

pub returns-in-Fault-clause-answer : goal.returns-in-Fault-clause-answer
returns-in-Fault-clause-answer c = λ f h r.
    let reads : Reads c.args.self.now _ _ _ = record { is = c.self.view_is; body = ap {A = Incoming} (λ i. is_body i.place) c.self.view_is; rest = c.front.ensures.rest } in
    let found = rw c.in-Ok-Begun.field-0-is at c.in-Ok-Begun.ensures.finds in
    let begins = subst (λ b. IsBegun c.args.side c.self.inside.place c.self.inside.content found.0 b) c.in-Fault.is found.1 in
    let small = rw c.in-Ok-Begun.field-0-is at c.in-Ok-Begun.ensures.within in
    rw c.fail-in-Fault.ensures (gives_just _ _ _ _ _ (pulled_frame c.args.side c.args.announced.now c.args.id r _ _ _ _ found.0 _ reads found.2 small (begins.is c.args.announced.now c.args.id r _ refl)) refl)

pub returns-in-Ok-Excessive-clause-answer : goal.returns-in-Ok-Excessive-clause-answer
returns-in-Ok-Excessive-clause-answer c = λ f h r.
    let reads : Reads c.args.self.now _ _ _ = record { is = c.self.view_is; body = ap {A = Incoming} (λ i. is_body i.place) c.self.view_is; rest = c.front.ensures.rest } in
    let small = rw c.in-Ok-Excessive.field-0-is at c.in-Ok-Excessive.ensures.within in
    rw (c.refuse_excess.ensures.is, c.refuse_excess.ensures.stream)
    (gives_just _ _ _ _ _ (pulled_excess c.args.side c.args.announced.now c.args.id r _ _ _ _ reads small) refl)

pub returns-in-Ok-LongSection-clause-answer : goal.returns-in-Ok-LongSection-clause-answer
returns-in-Ok-LongSection-clause-answer c = λ f h r.
    let reads : Reads c.args.self.now _ _ _ = record { is = c.self.view_is; body = ap {A = Incoming} (λ i. is_body i.place) c.self.view_is; rest = c.front.ensures.rest } in
    let small = rw c.in-Ok-LongSection.field-0-is at c.in-Ok-LongSection.ensures.within in
    gives_as _ _ _ _ _ _ (pulled_section c.args.side c.args.announced.now c.args.id r _ _ _ _ reads small) (c.refuse_message.ensures.answer h)

pub returns-in-Ok-LongSection-clause-memory : goal.returns-in-Ok-LongSection-clause-memory
returns-in-Ok-LongSection-clause-memory c = λ f h.
    let between : IsBetween c.args.self.now = record { no_fault = c.requires.open; goes_on = c.requires.goes_on; message = c.requires.message; none = c.requires.none; closed = c.requires.closed; waits = c.requires.waits } in
    let reads : Reads c.args.self.now _ _ _ = record { is = c.self.view_is; body = ap {A = Incoming} (λ i. is_body i.place) c.self.view_is; rest = c.front.ensures.rest } in
    let finds = rw c.in-Ok-LongSection.field-0-is at c.in-Ok-LongSection.ensures.finds in
    let same = c.refuse_message.ensures.memory h in
    (subst (λ x. Resumes c.args.announced.now c.args.self.now x) (sym same.0) (resumes_before c.args.announced.now _ _ _ _ reads between finds), same.1)

pub returns-in-Section-clause-section : goal.returns-in-Section-clause-section
returns-in-Section-clause-section c = λ t.
    let own = c.args.announced.now in
    let i = c.args.self.now in
    let between : IsBetween i = record { no_fault = c.requires.open; goes_on = c.requires.goes_on; message = c.requires.message; none = c.requires.none; closed = c.requires.closed; waits = c.requires.waits } in
    let reads : Reads i _ _ _ = record { is = c.self.view_is; body = ap {A = Incoming} (λ x. is_body x.place) c.self.view_is; rest = c.front.ensures.rest } in
    let found = rw c.in-Ok-Begun.field-0-is at c.in-Ok-Begun.ensures.finds in
    let begins = subst (λ b. IsBegun c.args.side c.self.inside.place c.self.inside.content found.0 b) c.in-Section.is found.1 in
    let small = rw c.in-Ok-Begun.field-0-is at c.in-Ok-Begun.ensures.within in (
      record {
        there = refl;
        pulls = λ r. pull_of_frame c.args.side own c.args.id r i c.requires.open c.requires.goes_on c.requires.message c.requires.none c.requires.closed
            ∙ pulled_frame c.args.side own c.args.id r _ _ _ _ found.0 _ reads found.2 small (begins.is own c.args.id r _ refl);
        lists = λ r. next_framed own r i _ _ _ found.0 c.in-Section.section reads found.2 c.requires.none begins.section;
        resumes = resumes_behind own _ _ _ _ _ _ found.0 reads between found.2 small (begins.begins _ refl) refl;
      },
      refl,
    )
