use Rattle.std.proofs.Common.{◌≡◌, ◌+◌, [], ◌∷◌, ◌++◌, length, take, rules, arith, ℕ, Vec, Global, length-take}
use Rattle.cdb_play.specs.Races.{bytes_of}
use Rattle.cdb_streams.specs.Scripts.{IsScript}
use Rattle.cdb_play.proofs.ScriptsRead.{bad_script, first_so_far, one_script}
use Rattle.cdb_play.proofs.Items.{parted_map, taken_map}
use Rattle.std.proofs.lemmas.List.{length-map}
use Rattle.cdb_play.proofs.races.scripts_of.Goals as goal

pub returns-in-Err-clause-fault : goal.returns-in-Err-clause-fault
returns-in-Err-clause-fault c =
    let scripts = c.args.scripts.now in
    let i = c.loop-script.script-index in
    let so = c.loop-script.invariant in
    let before = bytes_of (take i scripts) in
    let position : c.len.result + 1 ≡ length before + 1 =
    omega (arith, c.loop-script.read.ok.0, length-map (take i scripts) (λ (s : Vec ℕ Global). s.items), length-take i scripts) in
    rw c.at.ensures
    (bad_script c.loop-script.read.items before _ _ _ _ (parted_map scripts i c.script-item.is c.loop-script-test.true (λ s. s.items)) position so.read _
    (rw c.as_slice.ensures.value at c.in-Err.ensures.fault))

pub loop-script-preserved : goal.loop-script-preserved
loop-script-preserved c =
    let so = c.loop-script.invariant in
    let said = c.in-Ok.ensures in
    let is_script : IsScript c.in-Ok.commands.items c.script-item.result.items =
    (rw c.as_slice.ensures.value at said.short, rw c.as_slice.ensures.value at said.commands) in
    let items : c.push.new.self.items ≡ c.loop-script.read.items ++ c.new.result ∷ [] = search rules in
    record {
      read =
          rw (items, c.new.ensures, taken_map _ c.loop-script.script-index c.script-item.is c.loop-script-test.true (λ s. s.items))
          (one_script _ _ _ _ so.read is_script);
      count = let more = c.push.ensures.len in grind (arith, more, so.count);
    }

pub returns-in-Err-push-clause-fault : goal.returns-in-Err-push-clause-fault
returns-in-Err-push-clause-fault c =
    rw (c.from-in-Err-push.ensures, parted_map _ c.loop-script.script-index c.script-item.is c.loop-script-test.true (λ s. s.items))
    (first_so_far _ _ _ _ c.loop-script.invariant.read (rw c.as_slice.ensures.value at c.in-Ok.ensures.short))
