-- Each arm is the name of the operation that it stands at.
use Rattle.std.proofs.Common.{refl}
use Rattle.names.proofs.name.name.Goals as goal

pub returns-in-HLT : goal.returns-in-HLT
returns-in-HLT c = rw c.in-HLT.is refl

pub returns-in-NOP : goal.returns-in-NOP
returns-in-NOP c = rw c.in-NOP.is refl

pub returns-in-LDI : goal.returns-in-LDI
returns-in-LDI c = rw c.in-LDI.is refl

pub returns-in-LDA : goal.returns-in-LDA
returns-in-LDA c = rw c.in-LDA.is refl

pub returns-in-LDR : goal.returns-in-LDR
returns-in-LDR c = rw c.in-LDR.is refl

pub returns-in-MOV : goal.returns-in-MOV
returns-in-MOV c = rw c.in-MOV.is refl

pub returns-in-STORE : goal.returns-in-STORE
returns-in-STORE c = rw c.in-STORE.is refl

pub returns-in-PUSH : goal.returns-in-PUSH
returns-in-PUSH c = rw c.in-PUSH.is refl

pub returns-in-POP : goal.returns-in-POP
returns-in-POP c = rw c.in-POP.is refl

pub returns-in-ADD : goal.returns-in-ADD
returns-in-ADD c = rw c.in-ADD.is refl

pub returns-in-ADDI : goal.returns-in-ADDI
returns-in-ADDI c = rw c.in-ADDI.is refl

pub returns-in-SUB : goal.returns-in-SUB
returns-in-SUB c = rw c.in-SUB.is refl

pub returns-in-SUBI : goal.returns-in-SUBI
returns-in-SUBI c = rw c.in-SUBI.is refl

pub returns-in-INC : goal.returns-in-INC
returns-in-INC c = rw c.in-INC.is refl

pub returns-in-DEC : goal.returns-in-DEC
returns-in-DEC c = rw c.in-DEC.is refl

pub returns-in-AND : goal.returns-in-AND
returns-in-AND c = rw c.in-AND.is refl

pub returns-in-OR : goal.returns-in-OR
returns-in-OR c = rw c.in-OR.is refl

pub returns-in-XOR : goal.returns-in-XOR
returns-in-XOR c = rw c.in-XOR.is refl

pub returns-in-NOT : goal.returns-in-NOT
returns-in-NOT c = rw c.in-NOT.is refl

pub returns-in-CMP : goal.returns-in-CMP
returns-in-CMP c = rw c.in-CMP.is refl

pub returns-in-SHL : goal.returns-in-SHL
returns-in-SHL c = rw c.in-SHL.is refl

pub returns-in-SHR : goal.returns-in-SHR
returns-in-SHR c = rw c.in-SHR.is refl

pub returns-in-JMP : goal.returns-in-JMP
returns-in-JMP c = rw c.in-JMP.is refl

pub returns-in-JZ : goal.returns-in-JZ
returns-in-JZ c = rw c.in-JZ.is refl

pub returns-in-JNZ : goal.returns-in-JNZ
returns-in-JNZ c = rw c.in-JNZ.is refl

pub returns-in-PRINT : goal.returns-in-PRINT
returns-in-PRINT c = rw c.in-PRINT.is refl

pub returns-in-MUL : goal.returns-in-MUL
returns-in-MUL c = rw c.in-MUL.is refl

pub returns-in-MULI : goal.returns-in-MULI
returns-in-MULI c = rw c.in-MULI.is refl

pub returns-in-DIV : goal.returns-in-DIV
returns-in-DIV c = rw c.in-DIV.is refl

pub returns-in-DIVI : goal.returns-in-DIVI
returns-in-DIVI c = rw c.in-DIVI.is refl

pub returns-in-MOD : goal.returns-in-MOD
returns-in-MOD c = rw c.in-MOD.is refl

pub returns-in-MODI : goal.returns-in-MODI
returns-in-MODI c = rw c.in-MODI.is refl

pub returns-in-CALL : goal.returns-in-CALL
returns-in-CALL c = rw c.in-CALL.is refl

pub returns-in-RET : goal.returns-in-RET
returns-in-RET c = rw c.in-RET.is refl

pub returns-in-ROL : goal.returns-in-ROL
returns-in-ROL c = rw c.in-ROL.is refl

pub returns-in-ROR : goal.returns-in-ROR
returns-in-ROR c = rw c.in-ROR.is refl

pub returns-in-IN : goal.returns-in-IN
returns-in-IN c = rw c.in-IN.is refl

pub returns-in-JMPR : goal.returns-in-JMPR
returns-in-JMPR c = rw c.in-JMPR.is refl

pub returns-in-CALLR : goal.returns-in-CALLR
returns-in-CALLR c = rw c.in-CALLR.is refl

pub returns-in-STR : goal.returns-in-STR
returns-in-STR c = rw c.in-STR.is refl
