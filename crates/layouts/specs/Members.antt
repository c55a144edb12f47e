-- The members of settings.
use Rattle.std.specs.Prelude.{ℕ, Bool, true, cond, not, ◌&&◌, List, [], ◌∷◌, ◌++◌, nat_le}
use Rattle.layouts.specs.declared.letters.Letter.{Letter}
use Rattle.layouts.specs.declared.letters.Letter.TheVariants.{L, W, S, B, R}
use Rattle.layouts.specs.declared.members.Stands.{Stands}
use Rattle.layouts.specs.declared.members.Stands.TheVariants.{From, HighRate, LowRate}

-- the members of settings: the twelve of the extra header, and those behind it
abbrev pub members : List (Stands × Letter)
members =
    (From 1, W)  -- BytesInPacket
    ∷ (From 1, B)  -- DisplayMode
    ∷ (From 1, B)  -- ScanDirection
    ∷ (From 1, W)  -- StepSize
    ∷ (From 1, W)  -- StartAngle
    ∷ (From 1, W)  -- SectorHeading
    ∷ (From 1, B)  -- Upsample
    ∷ (From 1, B)  -- BitsPerSample
    ∷ (From 1, B)  -- ZoomFactor
    ∷ (From 1, B)  -- Version
    ∷ (From 1, L)  -- SamplingRate
    ∷ (From 1, W)  -- SamplingDelay
    ∷ (From 1, S)  -- ScanStopsLeft
    ∷ (From 1, S)  -- ScanStopsRight
    ∷ (From 1, S)  -- SectorLeft
    ∷ (From 1, S)  -- SectorRight
    ∷ (From 1, W)  -- ProfileNumReturns
    ∷ (From 1, W)  -- ProfileMinThreshold
    ∷ (From 1, W)  -- ProfileMaxThreshold
    ∷ (From 1, W)  -- ProfileMinRange
    ∷ (From 1, W)  -- ProfileMaxRange
    ∷ (From 1, W)  -- ProfileMinWidth
    ∷ (From 1, W)  -- ProfileMinGap
    ∷ (From 1, W)  -- ProfileReserved
    ∷ (From 1, L)  -- BaudRate
    ∷ (From 11, W)  -- SoundSpeedUser
    ∷ (From 1, R 16)  -- FutureExpansion1
    ∷ (From 10, B)  -- AutoTvg
    ∷ (From 9, B)  -- TestTone
    ∷ (From 9, S)  -- MinCableGain
    ∷ (From 9, S)  -- MaxCableGain
    ∷ (From 9, B)  -- DualTransmitRatio
    ∷ (From 9, W)  -- TiltSectorHeading
    ∷ (From 9, B)  -- GainShiftFactor
    ∷ (From 8, B)  -- OversamplingFrequencyFactor
    ∷ (From 7, W)  -- AssociationFlag1
    ∷ (From 7, W)  -- AssociationFlag2
    ∷ (From 5, B)  -- HiResSampAcquisFactor
    ∷ (From 1, B)  -- HardwareSyncMode
    ∷ (From 1, B)  -- Bandwidth
    ∷ (From 1, W)  -- SectorHeading
    ∷ (From 1, W)  -- SectorWidth
    ∷ (HighRate, L)  -- HighFrequencySampRate
    ∷ (From 1, W)  -- StepSize
    ∷ (From 1, W)  -- HeadAngle
    ∷ (LowRate, W)  -- SampRate
    ∷ (From 1, W)  -- SampCount
    ∷ (From 1, W)  -- SampDelay
    ∷ (From 1, W)  -- Range
    ∷ (From 1, W)  -- Gain
    ∷ (From 1, W)  -- PulseLength
    ∷ (From 1, W)  -- MultiPingCount
    ∷ (From 1, B)  -- StepAck
    ∷ (From 1, B)  -- CommID
    ∷ (From 1, B)  -- Paused
    ∷ (From 1, B)  -- ImageProfMode
    ∷ (From 1, B)  -- TransmitterOn
    ∷ (From 1, B)  -- XDCRorientation
    ∷ (From 1, B)  -- DisplayMode
    ∷ (From 1, B)  -- ZoomFactor
    ∷ (From 1, B)  -- ScanDirection
    ∷ (From 1, B)  -- BitsPerSample
    ∷ (From 1, B)  -- UpSample
    ∷ (From 1, B)  -- BeamType
    ∷ (From 1, W)  -- HidPartNumber1
    ∷ (From 1, W)  -- HidPartNumber2
    ∷ (From 1, L)  -- HidSerialNumber
    ∷ (From 1, L)  -- HidType
    ∷ (From 1, W)  -- HidVersion1
    ∷ (From 1, W)  -- HidVersion2
    ∷ (From 1, L)  -- HidData1
    ∷ (From 1, L)  -- HidData2
    ∷ (From 1, W)  -- HidMaxBaudrateIn300bps
    ∷ (From 1, W)  -- HidMaxMessageDataBytes
    ∷ (From 1, W)  -- HidReserved
    ∷ (From 1, W)  -- HidTelemetryVersion
    ∷ (From 1, R 36)  -- HeadContName
    ∷ (From 1, W)  -- ZoomOffset
    ∷ (From 1, W)  -- SoundSpeedDefault
    ∷ (From 1, B)  -- HeadControllerVersion
    ∷ (From 1, B)  -- SyncState
    ∷ (From 1, B)  -- SyncMask
    ∷ (From 1, B)  -- OperationMode
    ∷ (From 1, B)  -- TvgType
    ∷ (From 1, B)  -- TvgAFactor
    ∷ (From 1, W)  -- TvgBFactor
    ∷ (From 1, S)  -- TvgCFactor
    ∷ (From 1, B)  -- TvgLimit
    ∷ (From 1, S)  -- TiltAngle
    ∷ (From 1, W)  -- CableCalibration
    ∷ (From 1, B)  -- TiltMode
    ∷ (From 1, B)  -- TiltStepsize
    ∷ (From 1, S)  -- MaxTilt
    ∷ (From 1, S)  -- MinTilt
    ∷ (From 1, S)  -- TiltStopsLeft
    ∷ (From 1, S)  -- TiltStopsRight
    ∷ (From 1, B)  -- HeadJumperSetting
    ∷ (From 1, W)  -- HeadSoftwareVersion
    ∷ (From 1, B)  -- AvailableSensors
    ∷ (From 1, B)  -- TrawlSensorReadInterval
    ∷ []

-- whether the sampling rate is HighFrequencySampRate: from 6 on always, in 3 to 5 for altimeters
abbrev pub high_rate : ℕ → Bool → Bool
high_rate v altimeter = cond (nat_le 6 v) true (nat_le 3 v && altimeter)

-- whether a member stands in a version
abbrev pub stands : ℕ → Bool → Stands → Bool
stands v altimeter (From n) = nat_le n v
stands v altimeter HighRate = high_rate v altimeter
stands v altimeter LowRate = not (high_rate v altimeter)

-- the letters of the members that stand
abbrev pub present : ℕ → Bool → List (Stands × Letter) → List Letter
present v altimeter [] = []
present v altimeter (m ∷ ms) = cond (stands v altimeter m.0) (m.1 ∷ []) [] ++ present v altimeter ms

-- the letters of settings of a version
abbrev pub settings_letters : ℕ → Bool → List Letter
settings_letters v altimeter = present v altimeter members
