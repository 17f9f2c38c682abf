use Rattle.std.proofs.Common.{◌≡◌, refl, inl, inr}
use Rattle.cdb_program.proofs.frames.frame_files.Goals as goal

pub returns-in-Ok-clause-does : goal.returns-in-Ok-clause-does
returns-in-Ok-clause-does g c =
    let gives = rw (c.as_slice.ensures.value, c.as_slice-2.ensures.value) at c.in-Ok.ensures.frames in
    rw (← c.world.view_is)
    (refl, refl, inr (_, c.in_ok-json.json.items, c.in_ok-json.bytes.items, c.in_ok-json.ensures, inr (c.in-Ok.frames, gives, c.write_frames.ensures)))

pub returns-clause-does : goal.returns-clause-does
returns-clause-does g c =
    let fault = rw (c.as_slice.ensures.value, c.as_slice-2.ensures.value) at c.in-Err.ensures.fault in
    rw (← c.world.view_is)
    (refl, refl, inr (_, c.in_ok-json.json.items, c.in_ok-json.bytes.items, c.in_ok-json.ensures, inl (c.in-Err.fault, c.of_answer.ensures, fault, refl)))
