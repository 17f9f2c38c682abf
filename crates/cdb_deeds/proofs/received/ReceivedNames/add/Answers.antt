use Rattle.std.proofs.Common.{◌≡◌, ◌++◌, ◌∷◌, [], ◌<◌, ◌∙◌, List, map, set, ap, sym, arith}
use Rattle.std.proofs.lemmas.List.{map-set}
use Rattle.cdb_base.specs.declared.event.Event.{Event}
use Rattle.cdb_base.specs.declared.event.Event.TheVariants.{Step}
use Rattle.cdb_base.specs.declared.event.Kind.TheVariants.{Recv}
use Rattle.cdb_base.specs.declared.name.MsgName.{MsgName}
use Rattle.cdb_message.specs.Mail.{message_name}
use Rattle.cdb_deeds.specs.Deeds.{received_by_each}
use Rattle.cdb_deeds.proofs.ReceivedDeeds.{names_read, received_more, row_read}
use Rattle.cdb_deeds.proofs.received.ReceivedNames.add.Goals as goal

pub returns-in_ok-push : goal.returns-in_ok-push
returns-in_ok-push c = λ history is.
    let it = c.in-Step in
    let of = c.in-Recv in
    let whole : c.args.event.now ≡ Step it.p it.k (Recv of.s of.m) = it.is ∙ ap (Step it.p it.k) of.is in
    let rows = c.self.inside.of_processes.items in
    let i = c.index.result in
    let less : i < 9 = omega (arith, c.index.ensures.below_nine) in
    let were = c.self.view_is ∙ is in
    let own = row_read (λ row. row.items) rows i c.index_mut-names.result.now c.index_mut-names.ensures.value
    ∙ names_read history (map (λ row. row.items) rows) were i it.p _ c.index.ensures.value less in
    let name = message_name of.s of.m in
    map-set (λ row. row.items) rows i c.push.new.self
    ∙ ap (λ (rs : List (List MsgName)). set rs i c.push.new.self.items) were
    ∙ ap (λ (row : List MsgName). set (received_by_each history) i row) (c.in_ok-push.ensures.items ∙ ap (λ (ns : List MsgName). ns ++ name ∷ []) own)
    ∙ sym (received_more history i it.p it.k of.s of.m c.index.ensures.value)
    ∙ ap (λ (e : Event). received_by_each (history ++ e ∷ [])) (sym whole)
