-- Sets of the names of messages, and of the names of their copies.
use Rattle.std.specs.Prelude.{◌==◌, ◌&&◌, ◌||◌, Bool, nat_lt}
use Rattle.std.specs.Ordering.{nat_cmp, then_cmp, on}
use Rattle.std.specs.declared.cmp.Ordering.{Ordering}
use Rattle.std.specs.FinSet as set
use Rattle.cdb_base.specs.declared.name.MsgName.{MsgName}
use Rattle.cdb_base.specs.declared.name.CopyName.{CopyName}

-- names are ordered by sender, then by number
abbrev pub name_cmp : MsgName → MsgName → Ordering
name_cmp = then_cmp (on (λ n. n.s) nat_cmp) (on (λ n. n.m) nat_cmp)

-- a stands before b in that order
abbrev pub is_name_below : MsgName → MsgName → Bool
is_name_below a b = nat_lt a.s b.s || (a.s == b.s && nat_lt a.m b.m)

-- a set of the names of messages
abbrev pub NameSet : Type 0
NameSet = set.FinSet name_cmp

-- copies are ordered by message, then by receiver
abbrev pub copy_cmp : CopyName → CopyName → Ordering
copy_cmp = then_cmp (on (λ c. c.msg) name_cmp) (on (λ c. c.to) nat_cmp)

-- a set of the names of copies
abbrev pub CopySet : Type 0
CopySet = set.FinSet copy_cmp
