-- Which copies the look for a pending one passes over.
use Rattle.std.specs.Prelude.{◌≡◌, ◌≢◌, ℕ, ◌+◌, ◌-◌, ◌*◌, ◌<◌, ◌≤◌, ◌==◌, ◌&&◌, ◌⊎◌, false, nat_le, length}
use Rattle.std.specs.Prelude.{slice_index_or, if◌then◌else◌}
use Rattle.cdb_base.specs.Limits.{MAX_PROCESSES}
use Rattle.cdb_message.specs.declared.passed.Passed.{Passed}
use Rattle.cdb_message.specs.declared.passed.Stretch.{Stretch}
use Rattle.cdb_message.specs.Mail.{MailState, message_name, is_open}

-- where the stretch of receiver p and sender s stands
abbrev pub place : ℕ → ℕ → ℕ
place p s = (p - 1) * 9 + (s - 1)

abbrev pub no_stretch : Stretch
no_stretch = record { watermark = 0; low = 0; top = 0 }

-- what is passed over of receiver p and sender s
abbrev pub stretch_of : Passed → ℕ → ℕ → Stretch
stretch_of passed p s =
    if nat_le 1 p && nat_le 1 s && nat_le s 9
    then slice_index_or passed.stretches (place p s) no_stretch
    else no_stretch

-- that of p and s is this one, and every other stays
abbrev pub SetsStretch : Passed → Passed → ℕ → ℕ → Stretch → Type 0
SetsStretch old new p s stretch =
    (q t : ℕ) → stretch_of new q t ≡ (if q == p && t == s then stretch else stretch_of old q t)

-- a message with that number is passed over: it is not above the watermark, or in the stretch
abbrev pub IsWithin : Stretch → ℕ → Type 0
IsWithin stretch m = (m ≤ stretch.watermark) ⊎ ((stretch.low < m) × (m ≤ stretch.top))

-- the copy for p of the m-th message of s is passed over
abbrev pub IsPassed : Passed → ℕ → ℕ → ℕ → Type 0
IsPassed passed p s m = IsWithin (stretch_of passed p s) m

-- each copy that is passed over was received or lost
abbrev pub AreClosed : Passed → MailState → Type 0
AreClosed passed mail = (p s m : ℕ) → 1 ≤ m → IsPassed passed p s m → is_open mail p (message_name s m) ≡ false

-- there are as many lists of what was sent as of what was received, and what is passed over was received or lost
abbrev pub IsSound : Passed → MailState → Type 0
IsSound passed mail =
    (length mail.sent ≡ length mail.received) × (length mail.sent ≤ MAX_PROCESSES) × AreClosed passed mail

-- p received or lost its copy of each message of s up to this number
abbrev pub HasNoneOpen : MailState → ℕ → ℕ → ℕ → Type 0
HasNoneOpen mail p s number =
    (m : ℕ) → 1 ≤ m → m ≤ number → is_open mail p (message_name s m) ≡ false

-- no copy is passed over that was not, but those for p of messages of s up to the number
abbrev pub RaisesWatermark : Passed → Passed → ℕ → ℕ → ℕ → Type 0
RaisesWatermark old new p s number =
    (q t m : ℕ) → IsPassed new q t m → IsPassed old q t m ⊎ ((q ≡ p) × (t ≡ s) × (m ≤ number))

-- no copy is passed over that was not, nor the one for p of the message of s with the number
abbrev pub LeavesOut : Passed → Passed → ℕ → ℕ → ℕ → Type 0
LeavesOut old new p s number =
    (q t m : ℕ) → 1 ≤ m → IsPassed new q t m → IsPassed old q t m × (q ≡ p → t ≡ s → m ≢ number)
