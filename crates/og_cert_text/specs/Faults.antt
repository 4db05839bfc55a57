-- The numbers, names and lines of refusals.
use Rattle.std.specs.Prelude.{ℕ, List, Option, Some, None, codes}
use Rattle.og_cert_text.specs.declared.fault.CertFileFault.{CertFileFault}
use Rattle.og_cert_text.specs.declared.fault.CertFileFault.TheVariants as file_faults
use Rattle.og_cert_text.specs.declared.fault.CertTextFault.{CertTextFault}
use Rattle.og_cert_text.specs.declared.fault.CertTextFault.TheVariants as text_faults

abbrev pub file_fault_number : CertFileFault → ℕ
file_fault_number file_faults.BadNumber = 19
file_fault_number file_faults.Twice = 21
file_fault_number file_faults.TooDeep = 22
file_fault_number file_faults.NoSuchCertificate = 26

abbrev pub file_fault_name : CertFileFault → List ℕ
file_fault_name file_faults.BadNumber = codes "BadNumber"
file_fault_name file_faults.Twice = codes "Twice"
file_fault_name file_faults.TooDeep = codes "TooDeep"
file_fault_name file_faults.NoSuchCertificate = codes "NoSuchCertificate"

abbrev pub text_fault_number : CertTextFault → ℕ
text_fault_number (text_faults.BadLine line) = 20
text_fault_number (text_faults.Twice line) = 21
text_fault_number (text_faults.TooDeep line) = 22
text_fault_number text_faults.CertsTooLong = 23
text_fault_number text_faults.BadVersion = 24

abbrev pub text_fault_name : CertTextFault → List ℕ
text_fault_name (text_faults.BadLine line) = codes "BadLine"
text_fault_name (text_faults.Twice line) = codes "Twice"
text_fault_name (text_faults.TooDeep line) = codes "TooDeep"
text_fault_name text_faults.CertsTooLong = codes "CertsTooLong"
text_fault_name text_faults.BadVersion = codes "BadVersion"

abbrev pub text_fault_line : CertTextFault → Option ℕ
text_fault_line (text_faults.BadLine line) = Some line
text_fault_line (text_faults.Twice line) = Some line
text_fault_line (text_faults.TooDeep line) = Some line
text_fault_line text_faults.CertsTooLong = None
text_fault_line text_faults.BadVersion = None
