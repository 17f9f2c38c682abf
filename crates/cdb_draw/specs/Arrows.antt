-- The arrows of a picture.
use Rattle.std.specs.Prelude.{ℕ, ◌+◌, Bool, ◌&&◌, ◌||◌, is_none, nat_le, decimal}
use Rattle.std.specs.Prelude.{List, [], ◌∷◌, ◌++◌, codes, if◌then◌else◌}
use Rattle.std.specs.List.{concat}
use Rattle.std.specs.Option.{option_map_or}
use Rattle.cdb_base.specs.Positions.{nth}
use Rattle.cdb_base.specs.declared.event.Event.{Event}
use Rattle.cdb_base.specs.declared.event.Event.TheVariants.{Step, Lost}
use Rattle.cdb_base.specs.declared.event.Kind.{Kind}
use Rattle.cdb_base.specs.declared.event.Kind.TheVariants.{Recv, Read, Send, Write}
use Rattle.cdb_base.specs.declared.name.MsgName.{MsgName}
use Rattle.cdb_base.specs.declared.register.Reg.{Reg}
use Rattle.cdb_base.specs.declared.register.Reg.TheVariants.{R, Dec}
use Rattle.cdb_message.specs.Mail.{message_name}
use Rattle.cdb_draw.specs.Layout.{lane_y, register_y, row_of, spot, x_of, Grid, Point}
use Rattle.cdb_draw.specs.Positions.{passed_at, Sent, Taken}
use Rattle.cdb_draw.specs.Weights.{weight_at, weight_text, Weight}
use Rattle.cdb_draw.specs.Ways.{point_text, way_of, way_text}

-- an arrow of that class, along a way
unfoldable pub arrow_text : List ℕ → Weight → List ℕ → List ℕ
arrow_text class weight way =
    codes "<path class='" ++ class ++ codes " " ++ weight_text weight ++ codes "' d='" ++ way ++ codes "'/>\n"

-- that of a copy, from the position where its message was sent to position j on the lane of process p
abbrev pub copy_arrow : Grid → List Event → List ℕ → Weight → MsgName → ℕ → ℕ → List ℕ
copy_arrow grid history class weight name j p =
    option_map_or (λ i. arrow_text class weight (way_text (way_of grid i name.s j p)))
    (passed_at history (Sent name)) []

-- straight down or up at that x
abbrev pub upright : ℕ → ℕ → ℕ → List (List Point)
upright x from to = (record { x = x; y = from } ∷ record { x = x; y = to } ∷ []) ∷ []

-- the number of the lane of a register
abbrev pub register_lane : Grid → Reg → ℕ
register_lane grid (R p) = p
register_lane grid Dec = grid.processes + 1

-- on it, in the column of the event at that position
abbrev pub register_spot : Grid → ℕ → Reg → Point
register_spot grid position register =
    record {
      x = x_of grid position;
      y = register_y grid (row_of grid position) (register_lane grid register);
    }

-- from a register to a read of process p, and from a write to the register
abbrev pub read_way : Grid → ℕ → ℕ → Reg → List (List Point)
read_way grid position p register =
    upright (x_of grid position) (register_spot grid position register).y (lane_y grid (row_of grid position) p)

abbrev pub write_way : Grid → ℕ → ℕ → Reg → List (List Point)
write_way grid position p register =
    upright (x_of grid position) (lane_y grid (row_of grid position) p) (register_spot grid position register).y

-- ---- a message on its way

-- its copy for that process was neither received nor lost
abbrev pub waits : Grid → List Event → MsgName → ℕ → Bool
waits grid history name to =
    nat_le to grid.processes && is_none (passed_at history (Taken (record { msg = name; to = to })))

abbrev pub some_wait : Grid → List Event → MsgName → Bool
some_wait grid history name =
    let waits = waits grid history name in
    waits 1 || waits 2 || waits 3 || waits 4 || waits 5 || waits 6 || waits 7 || waits 8 || waits 9

abbrev pub waiter_text : Grid → List Event → MsgName → ℕ → List ℕ
waiter_text grid history name to = if waits grid history name to then codes " " ++ decimal to else []

-- a short stub from its send, and in two rows the receivers that still wait
unfoldable pub stub_text : Grid → List Event → Weight → ℕ → MsgName → List ℕ
stub_text grid history weight position name =
    let waiter = waiter_text grid history name in
    concat
    (codes "<g class='wait " ∷ weight_text weight ∷ codes "' transform='translate("
    ∷ point_text (spot grid position name.s) ∷ codes ")'><path d='M0,0L22,9'/><text class='note' y='33'>to"
    ∷ waiter 1 ∷ waiter 2 ∷ waiter 3 ∷ waiter 4 ∷ codes "</text><text class='note' y='44'>" ∷ waiter 5
    ∷ waiter 6 ∷ waiter 7 ∷ waiter 8 ∷ waiter 9 ∷ codes "</text></g>\n" ∷ [])

abbrev pub on_way_text : Grid → List Event → Weight → ℕ → MsgName → List ℕ
on_way_text grid history weight position name =
    if some_wait grid history name then stub_text grid history weight position name else []

-- ---- the arrow of an event

-- the arrow to a step of process p of that kind: to a receive from its send, to a read from the register; of a write to
-- the register; and the stub of a send
abbrev pub step_arrow : Grid → List Event → Weight → ℕ → ℕ → Kind → List ℕ
step_arrow grid history weight position p (Recv s m) =
    copy_arrow grid history (codes "copy") weight (message_name s m) position p
step_arrow grid history weight position p (Read register) =
    arrow_text (codes "read") weight (way_text (read_way grid position p register))
step_arrow grid history weight position p (Write register) =
    arrow_text (codes "write") weight (way_text (write_way grid position p register))
step_arrow grid history weight position p (Send m) = on_way_text grid history weight position (message_name p m)
step_arrow grid history weight position p kind = []

-- the arrow of an event; that of a lost copy ends on the lane of its receiver, where its cross stands
abbrev pub event_arrow : Grid → List Event → Weight → ℕ → Event → List ℕ
event_arrow grid history weight position (Step p k kind) = step_arrow grid history weight position p kind
event_arrow grid history weight position (Lost copy) =
    copy_arrow grid history (codes "lost") weight copy.msg position copy.to

abbrev pub arrow_at : Grid → List Event → List Weight → ℕ → List ℕ
arrow_at grid history weights position =
    option_map_or (event_arrow grid history (weight_at weights position) position) (nth history position) []
