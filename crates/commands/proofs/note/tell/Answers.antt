use Rattle.commands.proofs.note.tell.Goals as goal

pub returns-in-ReadFault-clause-reports : goal.returns-in-ReadFault-clause-reports
returns-in-ReadFault-clause-reports g c = rw c.in-ReadFault.is c.report.ensures

pub returns-in-WriteFault-clause-reports : goal.returns-in-WriteFault-clause-reports
returns-in-WriteFault-clause-reports g c = rw c.in-WriteFault.is c.report-in-WriteFault.ensures

pub returns-in-CoreFault-clause-reports : goal.returns-in-CoreFault-clause-reports
returns-in-CoreFault-clause-reports g c = rw c.in-CoreFault.is c.report-in-CoreFault.ensures

pub returns-in-Memory-clause-reports : goal.returns-in-Memory-clause-reports
returns-in-Memory-clause-reports g c = rw c.in-Memory.is c.report-in-Memory.ensures

pub returns-in-TooLarge-clause-reports : goal.returns-in-TooLarge-clause-reports
returns-in-TooLarge-clause-reports g c = rw c.in-TooLarge.is c.report-in-TooLarge.ensures
