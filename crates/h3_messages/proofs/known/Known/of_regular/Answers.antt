use Rattle.std.proofs.Common.{◌≡◌, ◌≢◌, length, slice_index, refl, ◌∙◌}
use Rattle.h3_messages.proofs.Names.{lone_by_length, lone_without_colon}
use Rattle.h3_messages.specs.declared.known.Known.TheVariants.{Te, Host, Upgrade, ContentLength, ProxyConnection, TransferEncoding}
use Rattle.h3_messages.proofs.known.Known.of_regular.Goals as goal

pub returns-in-2 : goal.returns-in-2
returns-in-2 c =
    let size : length c.args.name.now ≡ 2 = cc in
    c.if_same.ensures ∙ lone_by_length c.args.name.now 2 Te size refl

pub returns-in-4 : goal.returns-in-4
returns-in-4 c =
    let size : length c.args.name.now ≡ 4 = cc in
    c.if_same-in-4.ensures ∙ lone_by_length c.args.name.now 4 Host size refl

pub returns-in-7 : goal.returns-in-7
returns-in-7 c =
    let size : length c.args.name.now ≡ 7 = cc in
    let first : slice_index c.args.name.now 0 ≢ 58 = c.requires in
    c.if_same-in-7.ensures ∙ lone_without_colon c.args.name.now 7 Upgrade size first refl

pub returns-in-14 : goal.returns-in-14
returns-in-14 c =
    let size : length c.args.name.now ≡ 14 = cc in
    c.if_same-in-14.ensures ∙ lone_by_length c.args.name.now 14 ContentLength size refl

pub returns-in-16 : goal.returns-in-16
returns-in-16 c =
    let size : length c.args.name.now ≡ 16 = cc in
    c.if_same-in-16.ensures ∙ lone_by_length c.args.name.now 16 ProxyConnection size refl

pub returns-in-17 : goal.returns-in-17
returns-in-17 c =
    let size : length c.args.name.now ≡ 17 = cc in
    c.if_same-in-17.ensures ∙ lone_by_length c.args.name.now 17 TransferEncoding size refl
