-- What the faults of bodies of members tell.
use Rattle.refusals.specs.declared.Notice.{Notice}
use Rattle.refusals.specs.Notices.{notice, nowhere}
use Rattle.layouts.specs.declared.fault.LayoutFault.{LayoutFault}
use Rattle.layouts.specs.declared.fault.LayoutFault.TheVariants as layout

-- 5: no layout; 6: length; 7: Version, which is byte 13; 8: HeadControllerVersion, or HidType, where it begins
abbrev pub layout_fault : LayoutFault → Notice
layout_fault layout.NoLayout = nowhere 5
layout_fault layout.Length = nowhere 6
layout_fault layout.Version = notice 7 13
layout_fault (layout.HeadControllerVersion at) = notice 8 at
layout_fault (layout.HidType at) = notice 8 at
