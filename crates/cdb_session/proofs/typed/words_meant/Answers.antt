use Rattle.std.proofs.Common.{map, fold, List, ℕ, Bor, ap}
use Rattle.std.specs.List.{slice_split}
use Rattle.cdb_session.specs.Typed.{is_blank, up_to_comment, with_piece, words_meant}
use Rattle.cdb_session.proofs.typed.words_meant.Goals as goal

pub loop-rest-init : goal.loop-rest-init
unfolding words_meant
loop-rest-init c =
    ap (λ (words : List (Bor (List ℕ))). fold with_piece (map (λ it. it.now) words) (up_to_comment (slice_split is_blank c.args.line.now)))
    c.new-words.ensures.items
