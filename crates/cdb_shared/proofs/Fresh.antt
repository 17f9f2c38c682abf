-- Seats of a control in which nothing has happened.
use Rattle.std.proofs.Common.{◌≡◌, ℕ, ◌+◌, List, length, get_or, refl, ap, ◌∙◌}
use Rattle.std.proofs.lemmas.List.FromFn.{length-map-range_with_len, get_or-map-range_with_len}
use Rattle.atomic_table.specs.Seated.{TableId}
use Rattle.cdb_control.specs.Journal.{opened}
use Rattle.cdb_setup.specs.Parts.{Parts}
use Rattle.cdb_shared.specs.Seats.{SeatView, AreFresh, fresh_seat, fresh_seats}

-- the seats that were dealt of a control that was just opened
pub fresh_of : (shared : TableId) (setup : Parts) (many count : ℕ) (seats : List SeatView) → count ≡ many
    → seats ≡ fresh_seats shared (opened setup count) 1 count → AreFresh shared setup many seats
fresh_of shared setup many count seats whole dealt =
    let seat = fresh_seat shared (opened setup many) in
    let all : seats ≡ fresh_seats shared (opened setup many) 1 many = dealt ∙ ap (λ n. fresh_seats shared (opened setup n) 1 n) whole in
    record {
      many = ap length all ∙ length-map-range_with_len seat 1 many;
      each = λ k d low. ap (λ l. get_or l k d) all ∙ get_or-map-range_with_len seat 1 many k (1 + k) d low refl;
    }
