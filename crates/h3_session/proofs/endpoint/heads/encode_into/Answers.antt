use Rattle.std.proofs.Common.{rules}
use Rattle.std.proofs.lemmas.Result.{IfOk-weaker}
use Rattle.h3_session.proofs.SendingSections.{behind_room}
use Rattle.h3_session.proofs.endpoint.heads.encode_into.Goals as goal

pub returns-clause-ok : goal.returns-clause-ok
returns-clause-ok c = IfOk-weaker c.encode.result _ _ (λ count sent s is.
    let h = sent s (search (rules, is)) in
    let section = behind_room _ _ _ h.encoded_is c.requires.empty in
    record {
      same = search rules;
      unread = search rules;
      stores = search (rules, h);
      written = search (rules, h);
      section_is = search (rules, section);
      count_is = h.count_is;
    }) c.encode.ensures.sent
