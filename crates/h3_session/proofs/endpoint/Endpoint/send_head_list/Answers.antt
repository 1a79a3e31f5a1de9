use Rattle.h3_connection.specs.Answers.{call_refused}
use Rattle.h3_session.proofs.InvalidFields.{head_at_names, head_names, still_names}
use Rattle.h3_session.proofs.Lists.{head_list_refused, head_list_sent}
use Rattle.h3_session.proofs.endpoint.Endpoint.send_head_list.Goals as goal

pub returns-in-Err-clause-sends : goal.returns-in-Err-clause-sends
returns-in-Err-clause-sends c =
    head_list_refused c.args.self.now c.args.id c.args.fields.now c.in-Err.later c.refusal_of_head.result c.requires
    c.in-Err.ensures.err c.in-Err.ensures.memory c.refusal_of_head.ensures

pub returns-in-Err-clause-names : goal.returns-in-Err-clause-names
returns-in-Err-clause-names c =
    head_names c.args.self.now.announced.choices c.args.fields.now c.args.self.now c.args.id c.in-Err.later c.refusal_of_head.result c.in-Err.ensures.err c.refusal_of_head.ensures

pub returns-clause-sends : goal.returns-clause-sends
returns-clause-sends c =
    head_list_sent c.args.self.now c.args.id c.args.fields.now c.send_head_at.new.self c.in-Ok.judged.0 c.send_head_at.result
    c.in-Ok.ensures.ok c.send_head_at.ensures.sends

pub returns-clause-names : goal.returns-clause-names
returns-clause-names c =
    let sends = head_list_sent c.args.self.now c.args.id c.args.fields.now c.send_head_at.new.self c.in-Ok.judged.0 c.send_head_at.result c.in-Ok.ensures.ok c.send_head_at.ensures.sends in
    still_names c.args.self.now c.send_head_at.new.self c.args.fields.now (call_refused c.send_head_at.result) sends.same
    (head_at_names c.args.self.now c.args.fields.now (call_refused c.send_head_at.result) c.in-Ok.judged.0 c.in-Ok.ensures.ok c.send_head_at.ensures.names)
