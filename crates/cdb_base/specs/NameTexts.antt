-- The texts of names.
use Rattle.std.specs.Prelude.{ℕ, List, ◌++◌, codes, decimal}
use Rattle.cdb_base.specs.declared.name.CopyName.{CopyName}
use Rattle.cdb_base.specs.declared.name.StepId.{StepId}
use Rattle.cdb_base.specs.declared.name.StepId.TheVariants.{Step, Lost}
use Rattle.cdb_base.specs.declared.register.Reg.{Reg}
use Rattle.cdb_base.specs.declared.register.Reg.TheVariants.{R, Dec}

-- `P.K`
abbrev pub step_text : ℕ → ℕ → List ℕ
step_text p k = decimal p ++ codes "." ++ decimal k

-- `S#M`
abbrev pub message_text : ℕ → ℕ → List ℕ
message_text s m = decimal s ++ codes "#" ++ decimal m

-- `lost S#M to P`
abbrev pub loss_text : CopyName → List ℕ
loss_text copy =
    codes "lost " ++ message_text (copy.msg).s (copy.msg).m ++ codes " to " ++ decimal copy.to

abbrev pub name_text : StepId → List ℕ
name_text (Step name) = step_text name.p name.k
name_text (Lost copy) = loss_text copy

-- `r1` to `r9`, or `dec`
abbrev pub register_text : Reg → List ℕ
register_text (R p) = codes "r" ++ decimal p
register_text Dec = codes "dec"
