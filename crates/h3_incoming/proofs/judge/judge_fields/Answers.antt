use Rattle.std.proofs.Common.{◌≡◌, ◌∙◌, ap, sym}
use Rattle.h3_connection.specs.Pulling.{head_or_trailer, is_memory, with_content}
use Rattle.h3_connection.specs.StrictMessages.{broken_rule, if_whole, content_at, response_at}
use Rattle.h3_connection.specs.declared.event.Pull.TheVariants as pull
use Rattle.h3_header.specs.HeadRead.{head_by}
use Rattle.h3_incoming.specs.Answering.{item_of, kind_at, message_at}
use Rattle.h3_incoming.specs.Judging.{judged_as}
use Rattle.h3_incoming.specs.declared.judge.Judged.TheVariants as judge
use Rattle.h3_messages.specs.declared.outline.Outline.{Outline}
use Rattle.h3_connection.specs.Lists.{list_of, pull_of}
use Rattle.h3_header.specs.Reads.{head_of_fields}
use Rattle.h3_incoming.specs.HeaderSlots.{ReadsAsHead}
use Rattle.h3_incoming.proofs.BlockPullLaws.{listed_of, status_is, told_of}
use Rattle.h3_incoming.proofs.HeaderLaws.{if_same}
use Rattle.h3_incoming.proofs.ListLaws.{lists_same}
use Rattle.h3_incoming.proofs.JudgeLaws.{judged_behind, malformed_by, no_refusal, read_head, read_none}
use Rattle.h3_messages.specs.Outline.{refusal_by}
use Rattle.h3_messages.specs.OutlineLaws.{many_fields, outlined_head, told_outline, told_refusal}
use Rattle.h3_incoming.proofs.judge.judge_fields.Goals as goal

pub returns-in-Some-clause-judged : goal.returns-in-Some-clause-judged
returns-in-Some-clause-judged c = λ id r i replies few at left told.
    let own = c.args.announced.now in
    let any = own.choices.extensions.any_protocol in
    let read = c.read_at-read.ensures.list in
    let response = c.read_at-read.ensures.response in
    malformed_by (refusal_by c.in-Err.e) c.in-Some.why (sym c.in-Some.is ∙ c.malformation_in.ensures) _ (λ why some is.
    read_none c.args.side own id r i replies c.args.fields c.args.place c.args.response c.read_at-read.result.1.response c.in-Some.why why few (told_refusal any c.args.fields c.read_at-read.result.0 c.in-Err.e read c.in-Err.is why some) is at told response)

pub returns-in-None-clause-memory : goal.returns-in-None-clause-memory
returns-in-None-clause-memory c =
    let any = c.args.announced.now.choices.extensions.any_protocol in
    let read = c.read_at-read.ensures.list in
    many_fields any c.args.fields c.read_at-read.result.0 c.in-Err.e read c.in-Err.is (no_refusal (refusal_by c.in-Err.e) (sym c.in-None.is ∙ c.malformation_in.ensures))

pub returns-in-None-clause-good : goal.returns-in-None-clause-good
returns-in-None-clause-good c = λ why none.
    let any = c.args.announced.now.choices.extensions.any_protocol in
    let read = c.read_at-read.ensures.list in
    many_fields any c.args.fields c.read_at-read.result.0 c.in-Err.e read c.in-Err.is (no_refusal (refusal_by c.in-Err.e) (sym c.in-None.is ∙ c.malformation_in.ensures))

pub give_message-requires : goal.give_message-requires
give_message-requires c =
    let any = c.args.announced.now.choices.extensions.any_protocol in
    let read = told_outline any c.args.fields c.read_at-read.result.0 c.in-Ok.outline c.read_at-read.ensures.list c.in-Ok.is in
    (rw c.in-Ok.is at c.status.ensures) ∙ status_is any c.args.fields c.in-Ok.outline (c.lists_are_their_value.ensures.is_head any) read

pub returns-in-Malformed-clause-judged : goal.returns-in-Malformed-clause-judged
returns-in-Malformed-clause-judged c = λ id r i replies few at left told.
    let own = c.args.announced.now in
    let any = own.choices.extensions.any_protocol in
    let side = c.args.side in
    let place = c.args.place in
    let fields = c.args.fields in
    let read = c.read_at-read.ensures.list in
    outlined_head (head_by any fields) c.in-Ok.outline (told_outline any fields c.read_at-read.result.0 c.in-Ok.outline read c.in-Ok.is) _ (λ h head is.
    let rule : if_whole i.content (broken_rule side own place fields) ≡ c.if_whole-broken.result =
    ap (λ l. if_whole l (broken_rule side own place fields)) left
    ∙ ap (if_whole c.args.content) (sym (c.read_at-read.ensures.broken c.in-Ok.outline c.in-Ok.is)) ∙ sym c.if_whole-broken.ensures in
    let behind : (with_content side own i fields).content ≡ c.read_at-read.result.1.content =
    ap (λ p. content_at side own p i.content fields) at ∙ ap (λ l. content_at side own place l fields) left ∙ sym (c.read_at-read.ensures.content c.in-Ok.outline c.in-Ok.is) in
    let response : (with_content side own i fields).response ≡ c.read_at-read.result.1.response =
    ap (λ p. response_at side own p i.response fields) at ∙ ap (λ k. response_at side own place k fields) told ∙ sym (c.read_at-read.ensures.response) in
    read_head side own id r i replies fields place h few head at
    ∙ ap (λ b. head_or_trailer side id (with_content side own i fields) replies b place h) rule
    ∙ c.judge_message-judged.ensures id (with_content side own i fields) replies h (rw c.in-Ok.is is) at behind response
    ∙ judged_behind id i (with_content side own i fields).content (with_content side own i fields).response replies (pull.Item (message_at side place h)) c.judge_message-judged.result
    ∙ ap (judged_as id i replies (pull.Item (message_at side place h))) c.in-Malformed.is)

pub returns-in-HandsOut-clause-judged : goal.returns-in-HandsOut-clause-judged
returns-in-HandsOut-clause-judged c = λ id r i replies few at left told.
    let own = c.args.announced.now in
    let any = own.choices.extensions.any_protocol in
    let side = c.args.side in
    let place = c.args.place in
    let fields = c.args.fields in
    let read = c.read_at-read.ensures.list in
    outlined_head (head_by any fields) c.in-Ok.outline (told_outline any fields c.read_at-read.result.0 c.in-Ok.outline read c.in-Ok.is) _ (λ h head is.
    let rule : if_whole i.content (broken_rule side own place fields) ≡ c.if_whole-broken.result =
    ap (λ l. if_whole l (broken_rule side own place fields)) left
    ∙ ap (if_whole c.args.content) (sym (c.read_at-read.ensures.broken c.in-Ok.outline c.in-Ok.is)) ∙ sym c.if_whole-broken.ensures in
    let behind : (with_content side own i fields).content ≡ c.read_at-read.result.1.content =
    ap (λ p. content_at side own p i.content fields) at ∙ ap (λ l. content_at side own place l fields) left ∙ sym (c.read_at-read.ensures.content c.in-Ok.outline c.in-Ok.is) in
    let response : (with_content side own i fields).response ≡ c.read_at-read.result.1.response =
    ap (λ p. response_at side own p i.response fields) at ∙ ap (λ k. response_at side own place k fields) told ∙ sym (c.read_at-read.ensures.response) in
    let told_kind = rw c.in-Ok.is at c.kind_at-kind.ensures in
    let kind = told_kind ∙ ap (λ (o : Outline). kind_at side place o.status) is in
    let same : head_of_fields fields ≡ h = sym (c.lists_are_their_value.ensures.is_head any fields h head).1 in
    read_head side own id r i replies fields place h few head at
    ∙ ap (λ b. head_or_trailer side id (with_content side own i fields) replies b place h) rule
    ∙ c.judge_message-judged.ensures id (with_content side own i fields) replies h (rw c.in-Ok.is is) at behind response
    ∙ judged_behind id i (with_content side own i fields).content (with_content side own i fields).response replies (pull.Item (message_at side place h)) c.judge_message-judged.result
    ∙ ap (judged_as id i replies (pull.Item (message_at side place h))) c.in-HandsOut.is
    ∙ ap (λ p. judged_as id i replies p (judge.HandsOut c.in-HandsOut.behind c.in-HandsOut.content c.in-HandsOut.response)) (sym (ap pull_of c.give_message.ensures ∙ told_of c.kind_at-kind.result fields ∙ ap (λ q. pull.Item (item_of c.kind_at-kind.result q)) same ∙ ap (λ k. pull.Item (item_of k h)) kind)))

pub returns-in-HandsOut-clause-item : goal.returns-in-HandsOut-clause-item
returns-in-HandsOut-clause-item c = ap (λ p. is_memory (pull_of p)) c.give_message.ensures ∙ ap is_memory (told_of c.kind_at-kind.result c.args.fields)

pub returns-in-HandsOut-clause-list : goal.returns-in-HandsOut-clause-list
returns-in-HandsOut-clause-list c = lists_same _ c.args.fields (ap list_of c.give_message.ensures ∙ listed_of c.kind_at-kind.result c.args.fields)

pub returns-in-HandsOut-clause-reads : goal.returns-in-HandsOut-clause-reads
returns-in-HandsOut-clause-reads c =
    let any = c.args.announced.now.choices.extensions.any_protocol in
    let read = told_outline any c.args.fields c.read_at-read.result.0 c.in-Ok.outline c.read_at-read.ensures.list c.in-Ok.is in
    if_same (ReadsAsHead any) _ c.args.fields (ap list_of c.give_message.ensures ∙ listed_of c.kind_at-kind.result c.args.fields)
    (outlined_head (head_by any c.args.fields) c.in-Ok.outline read _ (λ h head is. (h, head)))
