-- How names, copies and the mail are coded, which a view of a set asks for: by their fields.
use Rattle.std.specs.Prelude.{ℕ, List, refl}
use Rattle.std.specs.Coded.{Coded, code_by, coded×, coded_list, coded_ℕ}
use Rattle.std.specs.FinSet as set
use Rattle.cdb_base.specs.declared.name.MsgName.{MsgName}
use Rattle.cdb_base.specs.declared.name.CopyName.{CopyName}
use Rattle.cdb_base.specs.declared.payload.Payload.{Payload}
use Rattle.cdb_base.specs.contracts.payload.Payload as payload
use Rattle.cdb_message.specs.Mail.{MailState}
use Rattle.cdb_message.specs.Names.{NameSet, CopySet}

abbrev pub name_code : Coded MsgName
name_code =
    code_by (ℕ × ℕ)
    (coded× coded_ℕ coded_ℕ)
    (λ n. (n.s, n.m)) (λ p. record { s = p.0; m = p.1 }) (λ _. refl)

abbrev pub copy_code : Coded CopyName
copy_code =
    code_by (MsgName × ℕ)
    (coded× name_code coded_ℕ)
    (λ c. (c.msg, c.to)) (λ p. record { msg = p.0; to = p.1 }) (λ _. refl)

abbrev sent_code : Coded (List (List Payload))
sent_code = coded_list (coded_list payload.the_row.coded)

abbrev pub mail_code : Coded MailState
mail_code =
    code_by (List (List Payload) × (List NameSet × CopySet))
    (coded× sent_code (coded× (coded_list (set.code name_code)) (set.code copy_code)))
    (λ mail. (mail.sent, (mail.received, mail.lost)))
    (λ p. record { sent = p.0; received = p.1.0; lost = p.1.1 })
    (λ _. refl)
